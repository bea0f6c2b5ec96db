-- Any two outcomes that the turn of a block of chunks allows coincide: that it can be turned is decided one way or the other, and a layout has one outcome.
use Rattle.lists.proofs.Kit.{◌≡◌, refl, sym, ◌∙◌, Bool, List, [], ◌∷◌, ◌⊎◌, inl, inr, ℕ}
use Rattle.layout.specs.Layout.{pick}
use Rattle.layout.proofs.Laws.{one_layout}
use Rattle.orders.specs.Chains.{exchange, follow, named}
use Rattle.orders.proofs.Chains.{undoes}
use Rattle.moves.proofs.OneOutcome.{most}
use Rattle.grids.specs.Grids.{GridTurned}
use Rattle.grids.specs.Promises.{Turnable, GridPromise}

-- one condition more
next : {A C : Type 0} → A ⊎ (A → ⊥) → (C → A) → (A → C ⊎ (C → ⊥)) → C ⊎ (C → ⊥)
next (inl a) need rest = rest a
next (inr n) need rest = inr (λ c. n (need c))

can_or_not : (m n chunk : ℕ) (xs marks : List ℕ) → Turnable m n chunk xs marks ⊎ (Turnable m n chunk xs marks → ⊥)
can_or_not m n chunk xs marks =
    next (most _ _) (λ t. t.some_rows) (λ a.
    next (most _ _) (λ t. t.some_columns) (λ b.
    next (most _ _) (λ t. t.far_rows) (λ c.
    next (most _ _) (λ t. t.far_columns) (λ d.
    next (most _ _) (λ t. t.few) (λ e.
    next (most _ _) (λ t. t.some_words) (λ f.
    next (most _ _) (λ t. t.inside) (λ g.
    next (most _ _) (λ t. t.marked) (λ h.
    inl record { some_rows = a; some_columns = b; far_rows = c; far_columns = d; few = e; some_words = f; inside = g; marked = h }))))))))

one_turned : {m n w : ℕ} {xs ys zs : List ℕ} → GridTurned m n w xs ys → GridTurned m n w xs zs → ys ≡ zs
unfolding pick named follow exchange
one_turned {m} {n} {w} s t = one_layout (m ∷ n ∷ w ∷ []) (undoes 3 (0 ∷ [])) refl s t

pub turn_grid_once : (m n chunk : ℕ) {xs marks ys zs ms ns : List ℕ} {r r' : Bool} → GridPromise m n chunk xs marks r ys ms → GridPromise m n chunk xs marks r' zs ns
    → (r ≡ r') × (ys ≡ zs) × (ms ≡ ns)
turn_grid_once m n chunk {xs} {marks} {ys} {zs} {ms} {ns} {r} {r'} p q = one (can_or_not m n chunk xs marks)
  where
    one : Turnable m n chunk xs marks ⊎ (Turnable m n chunk xs marks → ⊥) → (r ≡ r') × (ys ≡ zs) × (ms ≡ ns)
    one (inl f) =
        let (a, b, c) = p.turned f in
        let (d, e, g) = q.turned f in
        (a ∙ sym d, one_turned b e, c ∙ sym g)
    one (inr k) =
        let (a, b, c) = p.kept k in
        let (d, e, g) = q.kept k in
        (a ∙ sym d, b ∙ sym e, c ∙ sym g)
