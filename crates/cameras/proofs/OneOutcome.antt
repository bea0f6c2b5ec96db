-- Any two outcomes that removing or adding allows coincide, and after an accepted removal adding to what is left can be refused by 16 or
-- 25 only: freed room is always enough.
use Rattle.lists.proofs.Kit.{◌≡◌, refl, sym, ap, ◌∙◌, Bool, true, false, cond, List, ◌⊎◌, inl, inr, ⊎_elim, ℕ, suc, ◌+◌, ◌*◌, ◌-◌, ◌<◌, ◌≤◌, arith, length, get_or, ext_get_or, le-ltb, eq-eqb, lt-or-ge}
use Rattle.layout.specs.Layout.{volume}
use Rattle.refusals.specs.FirstOf.{first_of}
use Rattle.refusals.proofs.Promise.{one_change}
use Rattle.flat.specs.Turn.{sides}
use Rattle.flat.proofs.Turn.{volume_two}
use Rattle.lists.proofs.Words.{same_word, by_cells}
use Rattle.cameras.specs.Columns.{Removed, Added}
use Rattle.cameras.specs.Promises.{remove_checks, add_checks, no_column, other_length, RemovePromise, AddPromise}
use Rattle.cameras.proofs.Back.{column_is, Other, restored}
use Rattle.cameras.proofs.Accepted.{removes, lengths_left, adds}

one_removed : {frames n k : ℕ} {xs ys zs : List ℕ} → Removed frames n k xs ys → Removed frames n k xs zs → ys ≡ zs
one_removed {frames} {n} {k} {xs} {ys} {zs} r s =
    ext_get_or 0 ys zs (r.same ∙ sym s.same)
    (λ p _.
    ⊎_elim
    (λ (h : p < frames * n). by_cells frames n ys zs (λ i j g f. r.closed i j g f ∙ sym (s.closed i j g f)) p h)
    (λ (h : frames * n ≤ p).
    ⊎_elim
    (λ (g : p < frames * suc n). r.freed p h g ∙ sym (s.freed p h g))
    (λ (g : frames * suc n ≤ p). r.tail p g ∙ sym (s.tail p g))
    (lt-or-ge p (frames * suc n)))
    (lt-or-ge p (frames * n)))

one_added : {frames n k : ℕ} {column xs ys zs : List ℕ} → k ≤ n → Added frames n k column xs ys → Added frames n k column xs zs → ys ≡ zs
one_added {frames} {n} {k} {column} {xs} {ys} {zs} low r s =
    ext_get_or 0 ys zs (r.same ∙ sym s.same)
    (λ p _.
    ⊎_elim
    (λ (h : p < frames * suc n). by_cells frames (suc n) ys zs cell p h)
    (λ (h : frames * suc n ≤ p). r.tail p h ∙ sym (s.tail p h))
    (lt-or-ge p (frames * suc n)))
  where
    cell : (i c : ℕ) → i < frames → c < suc n → get_or ys (i * suc n + c) 0 ≡ get_or zs (i * suc n + c) 0
    cell i c h g =
        ⊎_elim
        (λ (e : c ≡ k). let o = ap (λ (z : ℕ). i * suc n + z) e in same_word ys o ∙ r.new i h ∙ sym (s.new i h) ∙ same_word zs (sym o))
        (λ (o : Other n k c).
        let e = ap (λ (z : ℕ). i * suc n + z) o.is in
        same_word ys (sym e) ∙ r.opened i o.j h o.low ∙ sym (s.opened i o.j h o.low) ∙ same_word zs e)
        (column_is n k c low g)

pub remove_once : (frames cameras k : ℕ) {r r' : ℕ} {xs ys zs : List ℕ} → RemovePromise frames cameras k xs r ys → RemovePromise frames cameras k xs r' zs
    → (r ≡ r') × (ys ≡ zs)
remove_once frames cameras k p q = one_change (λ _. one_removed) p q

pub add_once : (frames cameras k : ℕ) {r r' : ℕ} {column xs ys zs : List ℕ} → AddPromise frames cameras k column xs r ys → AddPromise frames cameras k column xs r' zs
    → (r ≡ r') × (ys ≡ zs)
add_once frames cameras k {column = column} {xs} p q = one_change (λ e. one_added (adds frames cameras k column xs e).low) p q

-- after an accepted removal only the place or the length of a column that is added to what is left can be wrong
left_to_check : (frames cameras k place : ℕ) (column xs ys : List ℕ) → first_of (remove_checks frames cameras k xs) ≡ 0 → length ys ≡ length xs
    → first_of (add_checks frames (cameras - 1) place column ys) ≡ cond (no_column (cameras - 1) place) 16 (cond (other_length frames column) 25 0)
left_to_check f c k place column xs ys e same =
    let r = removes f c k xs e in
    let before = volume_two f (c - 1) in
    let after = volume_two f (c - 1 + 1) in
    let less : f * (c - 1) ≤ f * suc (c - 1) = omega arith in
    rw (
      lengths_left f c k xs e,
      le-ltb 1048576 (volume (sides f (c - 1))) (omega (arith, r.few)),
      le-ltb 1048576 (volume (sides f (c - 1 + 1))) (omega (arith, r.few)),
      le-ltb (length ys) (volume (sides f (c - 1))) (omega (arith, r.fits)),
      le-ltb (length ys) (volume (sides f (c - 1 + 1))) (omega (arith, r.fits)),
    )

place_or_length : (a b : Bool) → let number = cond {A = ℕ} a 16 (cond b 25 0) in (number ≡ 0) ⊎ ((number ≡ 16) ⊎ (number ≡ 25))
place_or_length true b = inr (inl refl)
place_or_length false true = inr (inr refl)
place_or_length false false = inl refl

-- so a column can be added
pub room_enough : (frames cameras k place : ℕ) (column xs ys : List ℕ) → first_of (remove_checks frames cameras k xs) ≡ 0 → length ys ≡ length xs
    → let number = first_of (add_checks frames (cameras - 1) place column ys) in (number ≡ 0) ⊎ ((number ≡ 16) ⊎ (number ≡ 25))
room_enough f c k place column xs ys e same =
    rw (left_to_check f c k place column xs ys e same) (place_or_length (no_column (c - 1) place) (other_length f column))

-- a column removed, then the same words added at the same place: accepted, and every word of the buffer is what it was
pub there_and_back : (frames cameras k : ℕ) {r : ℕ} {column xs ys zs : List ℕ} → length column ≡ frames
    → ((i : ℕ) → i < frames → get_or column i 0 ≡ get_or xs (i * cameras + k) 0) → RemovePromise frames cameras k xs 0 ys
    → AddPromise frames (cameras - 1) k column ys r zs → (r ≡ 0) × (zs ≡ xs)
there_and_back f c k {column = column} {xs = xs} {ys = ys} long words p q =
    let e = sym p.number_is in
    let m = removes f c k xs e in
    let right : cond {A = ℕ} (no_column (c - 1) k) 16 (cond (other_length f column) 25 0) ≡ 0 = rw (le-ltb (c - 1) k m.low, eq-eqb (length column) f long) in
    let y = q.number_is ∙ left_to_check f c k k column xs ys e (p.words refl).same ∙ right in
    (y, restored m.low (p.words refl) (λ i h. words i h ∙ same_word xs (ap (λ (w : ℕ). i * w + k) m.left)) (q.words y))
