-- The flat turn is the map of offsets. For mn = 1, and where a side is 0, both say that every word stays.
use Rattle.lists.proofs.Kit.{◌≡◌, sym, ap, ◌∙◌, List, ◌↔◌, ◌⊎◌, inl, inr, ⊎_elim, ℕ, ◌+◌, ◌*◌, ◌-◌, ◌/◌, ◌%◌, ◌<◌, mod-lt, div-add-mod', div-lt_iff_lt-mul, arith, get_or, ext_get_or, lt-or-ge}
use Rattle.lists.proofs.Words.{rest_pos}
use Rattle.flat.specs.Turn.{Turn}
use Rattle.flat.proofs.Turn.{literally, from_literal, volume_two}
use Rattle.cycles.specs.Sent.{Carried, goes, Sent}
use Rattle.cycles.proofs.Goes.{corner, goes_to_lem}

module _ (m n : ℕ) (xs ys : List ℕ) where
  -- a word of the block, by its row and column
  placed_to : Sent m n xs ys → (i j : ℕ) → i < m → j < n → get_or ys (j * m + i) 0 ≡ get_or xs (i * n + j) 0
  placed_to s i j hi hj =
      ⊎_elim
      (λ c. ap (λ (z : ℕ). get_or ys z 0) (sym (goes_to_lem m n i j c.1)) ∙ s.sent (i * n + j) c.0)
      (λ c. ap (λ (z : ℕ). get_or ys z 0) c.1 ∙ s.stays (m * n - 1) (omega arith) ∙ ap (λ (z : ℕ). get_or xs z 0) (sym c.0))
      (corner m n i j hi hj)

  -- a word of the block, by its offset
  sent_to : Turn m n xs ys → (x : ℕ) → x < m * n
      → ((x < m * n - 1) × (get_or ys (goes m n x) 0 ≡ get_or xs x 0)) ⊎ ((x ≡ m * n - 1) × (get_or ys x 0 ≡ get_or xs x 0))
  sent_to t x h =
      let hn : 0 < n = rest_pos m n x h in
      let i = x / n in
      let j = x % n in
      let hi : i < m = (div-lt_iff_lt-mul hn).1 h in
      let hj : j < n = mod-lt x hn in
      let e : i * n + j ≡ x = div-add-mod' x n in
      let w : get_or ys (j * m + i) 0 ≡ get_or xs x 0 = literally xs ys t i j hi hj ∙ ap (λ (z : ℕ). get_or xs z 0) e in
      ⊎_elim
      (λ c. inl (omega arith, ap (λ (z : ℕ). get_or ys z 0) (ap (goes m n) (sym e) ∙ goes_to_lem m n i j c.1) ∙ w))
      (λ c. inr (omega arith, ap (λ (z : ℕ). get_or ys z 0) (omega arith) ∙ w))
      (corner m n i j hi hj)

  -- the turn, by rows and columns and by offsets, whatever m and n
  pub turn_iff : Turn m n xs ys ↔ Sent m n xs ys
  turn_iff = (there, λ s. from_literal m n xs ys s.same (placed_to s) (λ k h. s.stays k (omega arith)))
    where
      there : Turn m n xs ys → Sent m n xs ys
      there t = record {
        same = t.same;
        sent = λ x h. ⊎_elim (λ c. c.1) (λ c. absurd (omega arith)) (sent_to t x (omega arith));
        stays = λ k h.
            ⊎_elim
            (λ l. ⊎_elim (λ c. absurd (omega arith)) (λ c. c.1) (sent_to t k l))
            (λ l. t.tail k (rw (volume_two m n) l))
            (lt-or-ge k (m * n));
      }

-- what stays where it is, is as it was
pub carried_home : {N : ℕ} {f : ℕ → ℕ} {xs ys : List ℕ} → Carried N f xs ys → ((x : ℕ) → x < N → f x ≡ x) → ys ≡ xs
carried_home {N} {f} {xs} {ys} c e =
    ext_get_or 0 ys xs c.same
    (λ k _. ⊎_elim (λ h. ap (λ (z : ℕ). get_or ys z 0) (sym (e k h)) ∙ c.sent k h) (λ h. c.stays k h) (lt-or-ge k N))
