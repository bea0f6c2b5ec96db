-- The chunks while two mirrored cycles are followed by trades: the free place and its mirrored one hold what the first place and its mirrored one held, so
-- that nothing waits elsewhere.
use Rattle.lists.proofs.Kit.{◌≡◌, refl, sym, ap, ◌∙◌, true, false, List, ⊎_elim, ℕ, ◌+◌, ◌*◌, ◌<◌, get_or, eq-or-ne}
use Rattle.cycles.specs.Cycles.{takes}
use Rattle.grids.specs.declared.grid.Grid.{Grid}
use Rattle.grids.specs.Private.{mirror, fold, bit_at, MarkedToo, BothTraded, Crossed, Toured}
use Rattle.grids.proofs.Bits.{both}
use Rattle.grids.proofs.Mirror.{takes-mirror, fold-mirror, one_pair, pairs_permute}
use Rattle.grids.proofs.Chasing.{Chasing, still_free, on_free}
use Rattle.grids.proofs.Places.{Chased, Following, mirror_low, next_place, pair_next, apart, following_by, followed_by}

module _ (n m w : ℕ) where
  -- the free places trade with their sources, which are free then
  chased_traded : {first p x : ℕ} {before xs marks ys marked zs : List ℕ} → Chasing (pairs_permute n m) first (fold (n * m) p) before marks → p < n * m → x ≡ takes n m p
      → (fold (n * m) x ≡ first → ⊥) → Chased n m w (fold (n * m) p) xs marks ys → BothTraded (n * m) w p x ys zs → MarkedToo (fold (n * m) x) marks marked
      → Chased n m w (fold (n * m) x) xs marked zs
  chased_traded {first} {p} {x} {before} {xs} {marks} {ys} {marked} {zs} c low e ne a s mark = record {
    same = s.same ∙ a.same;
    gone = gone_now;
    stand = λ q u h k f.
        let old = still_free mark (fold (n * m) q) f in
        let d = apart n m p q low (λ z. both marks (fold (n * m) q) (ap (bit_at marks) z ∙ c.here) old.1) in
        let b = apart n m x q inside old.0 in
        s.stand q u k d.0 d.1 b.0 b.1 ∙ a.stand q u h k old.1;
    others = λ k b. s.others k b ∙ a.others k b;
  }
    where
      inside : x < n * m
      inside = next_place n m e low

      free : bit_at marks (fold (n * m) x) ≡ false
      free = on_free (pairs_permute n m) c (pair_next n m e low) ne

      -- the free places have the chunks of their sources, and the others of marked pairs too
      gone_now : (q u : ℕ) → q < n * m → u < w → bit_at marked (fold (n * m) q) ≡ true → (fold (n * m) q ≡ fold (n * m) x → ⊥)
          → get_or zs (q * w + u) 0 ≡ get_or xs (takes n m q * w + u) 0
      gone_now q u h k t away = ⊎_elim
          (λ (z : fold (n * m) q ≡ fold (n * m) p). ⊎_elim
          (λ (y : q ≡ p). rw y (s.here u k ∙ a.stand x u inside k free ∙ ap (λ (z : ℕ). get_or xs (z * w + u) 0) e))
          (λ (y : q ≡ mirror (n * m) p). rw y (
          s.there u k
          ∙ a.stand (mirror (n * m) x) u (mirror_low (n * m) x inside) k (ap (bit_at marks) (fold-mirror n m x inside) ∙ free)
          ∙ ap (λ (z : ℕ). get_or xs (z * w + u) 0) (ap (mirror (n * m)) e ∙ sym (takes-mirror n m p low))))
          (one_pair n m q p h low z))
          (λ (z : fold (n * m) q ≡ fold (n * m) p → ⊥).
          let d = apart n m p q low z in
          let b = apart n m x q inside away in
          s.stand q u k d.0 d.1 b.0 b.1 ∙ a.gone q u h k (sym (mark.others (fold (n * m) q) away) ∙ t) z)
          (eq-or-ne (fold (n * m) q) (fold (n * m) p))

-- what the loop keeps: the cycle is followed, and place p and its mirrored one hold what the first place and its mirrored one held
pub record Trading (g : Grid) (first p x : ℕ) (ys marks zs marked : List ℕ) : Type 0 where
  pub follow : Following g first p x ys marks zs marked
  pub here : (u : ℕ) → u < g.chunk → get_or zs (p * g.chunk + u) 0 ≡ get_or ys (first * g.chunk + u) 0
  pub there : (u : ℕ) → u < g.chunk → get_or zs (mirror (g.n * g.m) p * g.chunk + u) 0 ≡ get_or ys (mirror (g.n * g.m) first * g.chunk + u) 0

module _ {g : Grid} {first p x r : ℕ} {ys marks zs marked : List ℕ} (t : Trading g first p x ys marks zs marked) (folded : r ≡ fold (g.n * g.m) x) where
  -- one trade more
  pub trading_on : {y : ℕ} {vs after : List ℕ} → (r ≡ first → ⊥) → MarkedToo (fold (g.n * g.m) x) marked after
      → BothTraded (g.n * g.m) g.chunk p x zs vs → y ≡ takes g.n g.m x → Trading g first x y ys marks vs after
  trading_on away mark s is =
      let f = t.follow in
      record {
        follow = following_by f folded away mark s.same (λ xs a. chased_traded _ _ _ f.chase f.low f.is (λ e. away (folded ∙ e)) a s mark) is;
        here = λ u k. s.back u k ∙ t.here u k;
        there = λ u k. s.back_there u k ∙ t.there u k;
      }

  -- home
  pub traded : {before vs : List ℕ} → r ≡ first → bit_at before first ≡ false → MarkedToo first before marks
      → Crossed (g.n * g.m) g.chunk p x first zs vs → Toured g.n g.m g.chunk first ys before vs marked
  traded home free mark s = ⊎_elim
      (λ (z : x ≡ first). rw (s.straight z) (
      followed_by t.follow folded home free mark
      record { here = λ e u k. t.here u k; there = λ e u k. t.there u k; across = λ ne. absurd (ne z); across_there = λ ne. absurd (ne z) }
      record { same = refl; here = λ u k. refl; there = λ u k. refl; stand = λ q u k a b. refl; others = λ k b. refl }))
      (λ (ne : x ≡ first → ⊥).
      followed_by t.follow folded home free mark
      record { here = λ e. absurd (ne e); there = λ e. absurd (ne e); across = λ e u k. t.there u k; across_there = λ e u k. t.here u k }
      (s.across ne))
      (eq-or-ne x first)
