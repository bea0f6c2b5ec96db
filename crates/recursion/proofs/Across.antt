-- The exchange across the diagonal in tiles. A tile is read row by row into an array and stored from it column by column; two tiles that mirror
-- each other have so traded places, turned, and a tile on the diagonal is turned where it lies. Tile by tile the columns grow that stand exchanged, and
-- band by band the rows. Rows a and c lie apart where a < c: (a + 1)·n ≤ c·n.
use Rattle.lists.proofs.Kit.{◌≡◌, ap, ◌∙◌, List, ⊎_elim, ℕ, ◌+◌, ◌*◌, ◌-◌, ◌≤◌, ◌<◌, arith, length, get_or, lt-or-ge}
use Rattle.lists.proofs.Words.{next_run}
use Rattle.flat.specs.Turn.{Turn}
use Rattle.moves.specs.Stretch.{Stretch}
use Rattle.recursion.specs.PrivateTiles.{Lifted, Stored, Across}
use Rattle.recursion.proofs.Turns.{filled_turn}
use Rattle.recursion.specs.declared.tile.Tile.{Tile}

-- row r of a tile lies in the block
pub row_inside : (t : Tile) {r : ℕ} → r < t.height → (t.row + r) * t.side + t.column + t.width ≤ t.side * t.side
row_inside t {r} k = omega (arith, t.columns_inside, next_run t.side {j = t.row + r} {k = t.side} (omega (arith, t.rows_inside)))

-- one row more is
pub lifted_more : {n i j r w : ℕ} {xs tile next : List ℕ} → w ≤ 16 → Lifted n i j r w xs tile
    → Stretch (r * 16) w (λ u. get_or xs ((i + r) * n + j + u) 0) tile next → Lifted n i j (r + 1) w xs next
lifted_more {n} {i} {j} {r} {w} {xs} {tile} {next} broad l s = record {
  placed = λ a b p q x y. ⊎_elim
      (λ (k : a < i + r). s.below ((a - i) * 16 + (b - j)) (omega arith) ∙ l.placed a b p k x y)
      (λ (k : i + r ≤ a).
      let e : a ≡ i + r = omega arith in
      ap (λ (z : ℕ). get_or next z 0) (omega arith)
      ∙ s.holds (b - j) (omega arith)
      ∙ ap (λ (z : ℕ). get_or xs z 0) (omega (arith, ap (λ (z : ℕ). z * n) e)))
      (lt-or-ge a (i + r));
}

-- one row more is
pub stored_more : {n i j r w : ℕ} {tile xs ys zs : List ℕ} → j + w ≤ n → Stored n i j r w tile xs ys
    → Stretch ((i + r) * n + j) w (λ u. get_or tile (u * 16 + r) 0) ys zs → Stored n i j (r + 1) w tile xs zs
stored_more {n} {i} {j} {r} {w} {tile} {xs} {ys} {zs} inside d s = record {
  same = s.same ∙ d.same;
  placed = λ a b p q x y. ⊎_elim
      (λ (k : a < i + r). s.below (a * n + b) (omega (arith, next_run n k)) ∙ d.placed a b p k x y)
      (λ (k : i + r ≤ a).
      let e : a ≡ i + r = omega arith in
      ap (λ (z : ℕ). get_or zs z 0) (omega (arith, ap (λ (z : ℕ). z * n) e))
      ∙ s.holds (b - j) (omega arith)
      ∙ ap (λ (z : ℕ). get_or tile z 0) (omega arith))
      (lt-or-ge a (i + r));
  others = λ a b h f. outside a b h f ∙ d.others a b h (λ p q x y. f p (omega arith) x y);
}
  where
    outside : (a b : ℕ) → b < n → (i ≤ a → a < i + (r + 1) → j ≤ b → b < j + w → ⊥) → get_or zs (a * n + b) 0 ≡ get_or ys (a * n + b) 0
    outside a b h f = ⊎_elim
        (λ (k : a < i + r). s.below (a * n + b) (omega (arith, next_run n k)))
        (λ (k : i + r ≤ a). ⊎_elim
        (λ (l : i + r < a). s.above (a * n + b) (omega (arith, next_run n l)))
        (λ (l : a ≤ i + r).
        let e : a * n ≡ (i + r) * n = ap (λ (z : ℕ). z * n) (omega arith) in
        ⊎_elim
        (λ (m : b < j). s.below (a * n + b) (omega arith))
        (λ (m : j ≤ b). ⊎_elim
        (λ (o : b < j + w). absurd (f (omega arith) (omega arith) m o))
        (λ (o : j + w ≤ b). s.above (a * n + b) (omega arith))
        (lt-or-ge b (j + w)))
        (lt-or-ge b j))
        (lt-or-ge (i + r) a))
        (lt-or-ge a (i + r))

-- the columns up to a place, then those from there on
pub columns_more : {n lo hi from mid to : ℕ} {xs ys zs : List ℕ} → from ≤ mid → mid ≤ to → to ≤ n → Across n lo hi from mid xs ys → Across n lo hi mid to ys zs
    → Across n lo hi from to xs zs
columns_more {mid = mid} first last within c d = record {
  same = d.same ∙ c.same;
  traded = λ a b o p q x y. ⊎_elim
      (λ (k : b < mid).
      let s = d.stands a b o (omega arith) (λ p' q' x' y'. omega arith) in
      let t = c.traded a b o p q x k in
      (s.0 ∙ t.0, s.1 ∙ t.1))
      (λ (k : mid ≤ b).
      let s = c.stands a b o (omega arith) (λ p' q' x' y'. omega arith) in
      let t = d.traded a b o p q k y in
      (t.0 ∙ s.1, t.1 ∙ s.0))
      (lt-or-ge b mid);
  stands = λ a b o y f.
      let s = c.stands a b o y (λ p q x z. f p q x (omega arith)) in
      let t = d.stands a b o y (λ p q x z. f p q (omega arith) z) in
      (t.0 ∙ s.0, t.1 ∙ s.1);
}

-- the rows up to a place, then those from there on
pub rows_more : {n mid hi : ℕ} {xs ys zs : List ℕ} → mid ≤ hi → Across n 0 mid 0 n xs ys → Across n mid hi 0 n ys zs → Across n 0 hi 0 n xs zs
rows_more {mid = mid} more c d = record {
  same = d.same ∙ c.same;
  traded = λ a b o p q x y. ⊎_elim
      (λ (k : a < mid).
      let s = d.stands a b o y (λ p' q' x' y'. omega arith) in
      let t = c.traded a b o p k x y in
      (s.0 ∙ t.0, s.1 ∙ t.1))
      (λ (k : mid ≤ a).
      let s = c.stands a b o y (λ p' q' x' y'. omega arith) in
      let t = d.traded a b o k q x y in
      (t.0 ∙ s.1, t.1 ∙ s.0))
      (lt-or-ge a mid);
  stands = λ a b o y f.
      let s = c.stands a b o y (λ p q x z. f p (omega arith) x z) in
      let t = d.stands a b o y (λ p q x z. f (omega arith) q x z) in
      (t.0 ∙ s.0, t.1 ∙ s.1);
}

-- all rows: the block is turned
pub all-across : {n hi : ℕ} {xs ys : List ℕ} → length xs ≡ n * n → n ≤ hi → Across n 0 hi 0 n xs ys → Turn n n xs ys
all-across {n} {hi} {xs} {ys} long last c = filled_turn n n xs ys long c.same (λ a b ha hb. ⊎_elim
    (λ (k : a < b). (c.traded a b (omega arith) (omega arith) (omega arith) (omega arith) hb).1)
    (λ (k : b ≤ a). (c.traded b a k (omega arith) (omega arith) (omega arith) ha).0)
    (lt-or-ge a b))
