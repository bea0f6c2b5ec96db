-- The walks over the lines of the passes go over the places that the lines receive from, by the laws of crate walks; and where they begin, worked out or
-- carried on from the line before.
use Rattle.lists.proofs.Kit.{◌≡◌, refl, sym, ap, ◌∙◌, subst, ⊎_elim, ℕ, ◌+◌, ◌*◌, ◌-◌, ◌/◌, ◌%◌, ◌<◌, ◌≤◌, arith, mod-lt, mod-eq_of_lt, mod_self, zero-mod, mod-add-mod, add_comm, add-zero, add-mul, one-mul, zero-mul, add-mod_right, mul_comm, mul-le-mul, le-mul_of_pos_right, div-eq_of_lt, div-eq_of_lt-le, div-add-mod', div-le_self, eq-or-ne, ne_eqb}
use Rattle.flat.specs.Gcd.{gcd_of}
use Rattle.flat.specs.Passes.{row_group, column_group, row1, source2, row3}
use Rattle.flat.proofs.Sides.{Sides, sides_are, rows1_apart, rows3_apart}
use Rattle.walks.specs.PrivateSource.{Inverse, StateAt}
use Rattle.walks.specs.PrivateWalk.{walk}
use Rattle.walks.proofs.Steps.{walk_start, walk_more, walk_lt}
use Rattle.walks.proofs.Passes.{shared_le, row1_start, row3-walk, row_below}
use Rattle.walks.proofs.Source.{state_first, next_group, next_lap, next_round, row_round, source_at, column_lt}
use Rattle.passes.specs.PrivateScratch.{Apart, OfPass}
use Rattle.passes.specs.PrivateWalks.{begun, risen, onward, stands, Low, Small, Follows, SourceAt, Begins, WalkOf}
use Rattle.passes.specs.declared.sides.GroupedSides.{GroupedSides}
use Rattle.passes.specs.Lines.{received}
use Rattle.passes.specs.declared.line.Line.{Line}
use Rattle.passes.specs.declared.line.Pass.TheVariants.{First, Second, Third}
use Rattle.passes.specs.declared.walk.Place.{Place}
use Rattle.passes.specs.declared.walk.Walk.{Walk}
use Rattle.passes.proofs.Walks.{past_end, at_break, within_run, keeps}
use Rattle.passes.proofs.Received.{received_apart}

-- a walk whose steps keep S, which tells the places
follow : {w : Walk} {p : Place} {count : ℕ} {f : ℕ → ℕ} (S : ℕ → Place → Type 0) → Small w count → (p.group ≡ 0 → p.place ≡ p.lap) → Apart f count
    → S 0 p → ((k : ℕ) (q : Place) → k + 1 < count → S k q → S (k + 1) (onward w q)) → ((k : ℕ) (q : Place) → k < count → S k q → Low w q × (f k ≡ q.place))
    → Follows w p count f
follow {w} {p} {count} {f} S small starts apart zeroth next tells =
    let along : (k : ℕ) → k < count → Low w (stands w p k) × (f k ≡ (stands w p k).place) = λ k h. tells k (stands w p k) h (keeps w p S zeroth next k h) in
    record {
      walks = record {
        small = small;
        low = λ k h. (along k h).0;
        apart = λ j k hj hk e. apart j k hj hk ((along j hj).1 ∙ e ∙ sym (along k hk).1);
      };
      starts = starts;
      places = λ k h. (along k h).1;
    }

module _ {m n : ℕ} (d : Sides m n) (hm : 0 < m) (hn : 0 < n) where
  abbrev a : ℕ
  a = row_group m n

  abbrev b : ℕ
  b = column_group m n

  abbrev c : ℕ
  c = gcd_of m n

  a_le : a ≤ m
  a_le = omega (arith, le-mul_of_pos_right {m = c} a d.c_pos, d.rows)

  b_le : b ≤ n
  b_le = omega (arith, le-mul_of_pos_right {m = c} b d.c_pos, d.columns)

  c_le : c ≤ n
  c_le = omega (arith, le-mul_of_pos_right {m = b} c d.b_pos, mul_comm c b, d.columns)

  -- pass 1: one group, from the turn of its column on
  abbrev rising : Walk
  rising = record { step = 1; modulus = m; size = m; turn = 0; round = m; split = 0 }

  rising_on : (z : ℕ) → z < m → onward rising (risen z) ≡ risen ((z + 1) % m)
  rising_on z h =
      ⊎_elim
      (λ (e : z + 1 ≡ m). past_end rising (risen z) e ∙ ap begun (zero-mod m) ∙ ap risen (sym (ap (λ (y : ℕ). y % m) e ∙ mod_self m)))
      (λ (e : z + 1 ≡ m → ⊥).
      let low : (z + 1) % m ≡ z + 1 = mod-eq_of_lt (omega arith) in
      within_run rising (risen z) e (λ q. omega arith) ∙ rw low)
      (eq-or-ne (z + 1) m)

  pub follows_1 : (j : ℕ) → j < n → Follows rising (risen (j / b)) m (λ k. row1 m n k j)
  unfolding row1
  follows_1 j h =
      let q = j / b in
      follow (λ k p. p ≡ risen ((q + k) % m))
      (record { short = hm; turns = omega arith; modulus = omega arith; round = omega arith; size = omega arith })
      (λ e. e)
      (λ x y hx hy e. rows1_apart d j x y hx hy e)
      (ap risen (sym (ap (λ (z : ℕ). z % m) (add-zero q) ∙ mod-eq_of_lt (row1_start d j h))))
      (λ k p _ e. ap (onward rising) e ∙ rising_on ((q + k) % m) (mod-lt (q + k) hm) ∙ ap risen (mod-add-mod (q + k) m 1 ∙ ap (λ (z : ℕ). z % m) (omega arith)))
      (λ k p _ e. rw e (record { place = mod-lt (q + k) hm; group = mod-lt (q + k) hm; lap = hm }, ap (λ (z : ℕ). z % m) (add_comm k q)))

  -- pass 2: the sources of row i, group by group
  module _ {x i : ℕ} (v : Inverse a b x) (h : i < m) where
    abbrev sources : Walk
    sources = record { step = b; modulus = n; size = c; turn = x; round = b; split = m - i }

    -- before its break the column of a group is the lap
    early : {j : ℕ} {p : Place} (w : SourceAt m n i j p) → i + p.group < m → w.column ≡ p.lap
    early {p = p} w e =
        w.state.column
        ∙ ap (λ (z : ℕ). (p.lap + z) % b) (div-eq_of_lt e)
        ∙ ap (λ (z : ℕ). z % b) (add-zero p.lap)
        ∙ mod-eq_of_lt w.state.lap

    source_next : (j : ℕ) (p : Place) → SourceAt m n i j p → SourceAt m n i (j + 1) (onward sources p)
    source_next j p w = ⊎_elim round (λ (u : p.group + 1 ≡ c → ⊥). ⊎_elim (broken u) (straight u) (eq-or-ne (p.group + 1) (m - i))) (eq-or-ne (p.group + 1) c)
      where
        round : p.group + 1 ≡ c → SourceAt m n i (j + 1) (onward sources p)
        round e = rw (past_end sources p e) (record { column = (p.lap + x) % b; state = next_round d v h e w.state; place = omega (arith, zero-mul b) })

        broken : (p.group + 1 ≡ c → ⊥) → p.group + 1 ≡ m - i → SourceAt m n i (j + 1) (onward sources p)
        broken u e =
            let g : p.group + 1 < c = omega (arith, w.state.group) in
            let is : (w.column + 1) % b ≡ (p.lap + 1) % b = ap (λ (z : ℕ). (z + 1) % b) (early w (omega arith)) in
            rw (at_break sources p u e, ne_eqb _ _ u)
            (record { column = (p.lap + 1) % b; state = subst (λ (z : ℕ). StateAt m n i (j + 1) (p.group + 1) p.lap z) is (next_lap d g (omega arith) w.state); place = refl })

        straight : (p.group + 1 ≡ c → ⊥) → (p.group + 1 ≡ m - i → ⊥) → SourceAt m n i (j + 1) (onward sources p)
        straight u e =
            let g : p.group + 1 < c = omega (arith, w.state.group) in
            let next = next_group d h g (λ q. e (omega arith)) w.state in
            let up : p.place + b ≡ (p.group + 1) * b + w.column = omega (arith, w.place, add-mul p.group 1 b, one-mul b) in
            let low : (p.place + b) % n ≡ p.place + b = mod-eq_of_lt (omega (arith, column_lt d next)) in
            rw (within_run sources p u e) (record { column = w.column; state = next; place = low ∙ up })

    pub follows_2 : {p : Place} → SourceAt m n i 0 p → Follows sources p n (source2 m n i)
    follows_2 {p} w =
        follow (SourceAt m n i)
        (record { short = b_le; turns = omega (arith, v.small); modulus = omega arith; round = b_le; size = c_le })
        (λ e. w.place ∙ ap (λ (z : ℕ). z * b + w.column) e ∙ omega (arith, zero-mul b, early w (omega arith)))
        (received_apart d hm hn Second i h)
        w
        (λ k q _ y. source_next k q y)
        (λ k q l y. (
          record { place = omega (arith, y.place, column_lt d y.state); group = y.state.group; lap = y.state.lap },
          source_at d l y.state ∙ sym y.place,
        ))

  -- pass 3: groups by n modulo m, each one row below the one before
  module _ (j : ℕ) where
    abbrev rows : Walk
    rows = record { step = n % m; modulus = m; size = a; turn = m - 1; round = m; split = 0 }

    record ThirdAt (k : ℕ) (p : Place) : Type 0 where
      pub g : ℕ
      pub at : k ≡ g * a + p.group
      pub low : p.group < a
      pub lap : p.lap ≡ (j + m - g) % m
      pub place : p.place ≡ walk p.lap (n % m) m p.group

    group_lt : {k : ℕ} {p : Place} (w : ThirdAt k p) → k < m → w.g < m
    group_lt w h = omega (arith, w.at, le-mul_of_pos_right {m = a} w.g d.a_pos)

    third_next : (k : ℕ) (p : Place) → k + 1 < m → ThirdAt k p → ThirdAt (k + 1) (onward rows p)
    third_next k p h w =
        ⊎_elim
        (λ (e : p.group + 1 ≡ a).
        let below : (p.lap + (m - 1)) % m ≡ (j + m - (w.g + 1)) % m = ap (λ (z : ℕ). (z + (m - 1)) % m) w.lap ∙ row_below m j w.g (group_lt w (omega arith)) in
        rw (past_end rows p e) (record {
          g = w.g + 1;
          at = omega (arith, w.at, add-mul w.g 1 a, one-mul a);
          low = d.a_pos;
          lap = below;
          place = sym (walk_start _ _ _ (mod-lt (p.lap + (m - 1)) hm));
        }))
        (λ (e : p.group + 1 ≡ a → ⊥). rw (within_run rows p e (λ q. omega arith)) (record {
          g = w.g;
          at = omega (arith, w.at);
          low = omega (arith, w.low);
          lap = w.lap;
          place = ap (λ (z : ℕ). (z + n % m) % m) w.place ∙ sym (walk_more _ _ _ p.group);
        }))
        (eq-or-ne (p.group + 1) a)

    pub follows_3 : j < n → Follows rows (begun (j % m)) m (λ k. row3 m n k j)
    follows_3 h =
        follow ThirdAt
        (record { short = omega (arith, mod-lt n hm); turns = omega arith; modulus = omega arith; round = omega arith; size = a_le })
        (λ e. refl)
        (λ x y hx hy e. rows3_apart d j x y h hx hy e)
        (record { g = 0; at = omega (arith, zero-mul a); low = d.a_pos; lap = sym (add-mod_right j m) ∙ ap (λ (z : ℕ). z % m) (omega arith); place = sym (walk_start _ _ _ (mod-lt j hm)) })
        third_next
        (λ k p l w. (
          record {
            place = rw w.place (walk_lt _ _ _ p.group hm);
            group = w.low;
            lap = rw w.lap (mod-lt (j + m - w.g) hm);
          },
          ap (λ (z : ℕ). row3 m n z j) w.at ∙ row3-walk d j w.g p.group (group_lt w l) w.low ∙ ap (λ (z : ℕ). walk z (n % m) m p.group) (sym w.lap) ∙ sym w.place,
        ))

-- the walk of each pass, as the function makes it of the sides, is that of line i
module _ (s : GroupedSides) where
  flat : Sides s.m s.n
  flat = sides_are s.m s.n s.m_pos s.n_pos

  -- a walk that follows all that another follows
  abbrev Joins : Walk → Walk → ℕ → Type 0
  Joins v w count = (q : Place) (f : ℕ → ℕ) → Follows v q count f → Follows w q count f

  pub walk_1 : {i : ℕ} → i < s.n → WalkOf s.m s.n First i (record { step = 1; modulus = s.m; size = s.m; turn = 0; round = s.m; split = 0 })
  walk_1 {i} h q e = rw e (follows_1 flat s.m_pos s.n_pos i h)

  pub walk_2 : {w : Walk} {i x : ℕ} → i < s.m → Inverse (row_group s.m s.n) (column_group s.m s.n) x
      → Joins (record { step = s.b; modulus = s.n; size = s.c; turn = x; round = s.b; split = s.m - i }) w s.n → WalkOf s.m s.n Second i w
  walk_2 {i = i} h v f q y = f q (source2 s.m s.n i) (rw (s.b_is, s.c_is) (follows_2 flat s.m_pos s.n_pos v h y))

  pub walk_3 : {w : Walk} {i : ℕ} → i < s.n
      → Joins (record { step = s.remainder; modulus = s.m; size = s.a; turn = s.m - 1; round = s.m; split = 0 }) w s.m → WalkOf s.m s.n Third i w
  walk_3 {i = i} h f q e = rw e (f (begun (i % s.m)) (λ k. row3 s.m s.n k i) (rw (s.remainder_is, s.a_is) (follows_3 flat s.m_pos s.n_pos i h)))

-- a line that is one of its pass receives from the places of its walk
pub follows_line : (m n : ℕ) (l : Line) {w : Walk} {p : Place} → OfPass m n l → WalkOf m n l.pass l.index w → Begins m n l.pass l.index p
    → Follows w p l.count (received m n l.pass l.index)
follows_line m n l is goes begins = rw is.0 (goes _ begins)

-- the numbers on the way to the source of place 0 of row i, where k·c is the first multiple of c from i on
pub record Sought (s : GroupedSides) (x i k : ℕ) : Type 0 where
  pub low : i ≤ k * s.c
  pub high : k * s.c < i + s.c
  pub once : k * s.c < s.m + s.m
  pub many : (s.n - 1) * k ≤ 33554432
  pub product : x * ((s.n - 1) * k) ≤ 137438953472

-- where the walk over the sources of a row begins
module _ (s : GroupedSides) {x : ℕ} (v : Inverse (row_group s.m s.n) (column_group s.m s.n) x) where
  whole : Sides s.m s.n
  whole = sides_are s.m s.n s.m_pos s.n_pos

  -- the numbers that come with the sides are small
  pub few : (0 < s.b) × (0 < s.c) × (s.b ≤ 4096) × (s.c ≤ s.m) × (x < s.b)
  few = rw (s.b_is, s.c_is) (whole.b_pos, whole.c_pos, omega (arith, b_le whole s.m_pos s.n_pos, s.n_few), shared_le whole, v.small)

  pub sought : (i : ℕ) → i < s.m → Sought s x i ((i + (s.c - 1)) / s.c)
  sought i h =
      let f = few in
      let k = (i + (s.c - 1)) / s.c in
      let e = div-add-mod' (i + (s.c - 1)) s.c in
      let r = mod-lt (i + (s.c - 1)) f.1 in
      let le = div-le_self (i + (s.c - 1)) s.c in
      let few-m = s.m_few in
      let few-n = s.n_few in
      let many : (s.n - 1) * k ≤ 33554432 = mul-le-mul {n₂ = 4096} {m₂ = 8192} (omega arith) (omega arith) in
      record {
        low = omega arith;
        high = omega arith;
        once = omega arith;
        many = many;
        product = mul-le-mul {n₂ = 4096} {m₂ = 33554432} (omega arith) many;
      }

  -- a state as the functions hold it
  held : {i j group lap column : ℕ} → StateAt s.m s.n i j group lap column → SourceAt s.m s.n i j (record { place = group * s.b + column; group = group; lap = lap })
  held {group = group} {column = column} w = record { column = column; state = w; place = ap (λ (z : ℕ). group * z + column) s.b_is }

  kept : (q : ℕ) {z : ℕ} → q < s.b → z ≡ 0 → (q + z) % s.b ≡ q
  kept q h e = ap (λ (z : ℕ). (q + z) % s.b) e ∙ ap (λ (z : ℕ). z % s.b) (add-zero q) ∙ mod-eq_of_lt h

  -- worked out for row i, where its row and group do not reach m, and where they do
  module _ (i k : ℕ) (t : Sought s x i k) where
    first-at : let q = x * ((s.n - 1) * k) % s.b in StateAt s.m s.n i 0 (k * s.c - i) q ((q + k * s.c / s.m) % s.b)
    first-at = rw (s.b_is, s.c_is) (state_first whole v i k s.n_pos (rw s.c_is at t.low) (rw s.c_is at t.high))

    pub source_short : k * s.c < s.m
        → let q = x * ((s.n - 1) * k) % s.b in SourceAt s.m s.n i 0 (record { place = (k * s.c - i) * s.b + q; group = k * s.c - i; lap = q })
    source_short h =
        let q = x * ((s.n - 1) * k) % s.b in
        held (subst (λ (z : ℕ). StateAt s.m s.n i 0 (k * s.c - i) q z) (kept q (mod-lt _ few.0) (div-eq_of_lt h)) first-at)

    pub source_past : s.m ≤ k * s.c
        → let q = x * ((s.n - 1) * k) % s.b in SourceAt s.m s.n i 0 (record { place = (k * s.c - i) * s.b + (q + 1) % s.b; group = k * s.c - i; lap = q })
    source_past h =
        let q = x * ((s.n - 1) * k) % s.b in
        let one : k * s.c / s.m ≡ 1 = div-eq_of_lt-le {k = 1} s.m (omega arith) (omega (arith, t.once)) in
        held (subst (λ (z : ℕ). StateAt s.m s.n i 0 (k * s.c - i) q z) (ap (λ (z : ℕ). (q + z) % s.b) one) first-at)

  -- carried on from row i: the group before, or the last one, where its row and group do not reach m and where they do
  module _ {i : ℕ} {p : Place} (w : SourceAt s.m s.n i 0 p) where
    module _ (none : p.group ≡ 0) (h : i < s.m) {lap : ℕ} (is : lap ≡ (p.lap + (s.b - x)) % s.b) where
      last : StateAt s.m s.n (i + 1) 0 (s.c - 1) lap ((lap + (i + s.c) / s.m) % s.b)
      last = rw (is, s.b_is, s.c_is) (row_round whole v (subst (λ (z : ℕ). StateAt s.m s.n i 0 z p.lap w.column) none w.state))

      lap_low : lap < s.b
      lap_low = rw is (mod-lt _ few.0)

      pub below_short : i + s.c < s.m → SourceAt s.m s.n (i + 1) 0 (record { place = (s.c - 1) * s.b + lap; group = s.c - 1; lap = lap })
      below_short d = held (subst (λ (z : ℕ). StateAt s.m s.n (i + 1) 0 (s.c - 1) lap z) (kept lap lap_low (div-eq_of_lt d)) last)

      pub below_past : s.m ≤ i + s.c → SourceAt s.m s.n (i + 1) 0 (record { place = (s.c - 1) * s.b + (lap + 1) % s.b; group = s.c - 1; lap = lap })
      below_past d =
          let one : (i + s.c) / s.m ≡ 1 = div-eq_of_lt-le {k = 1} s.m (omega arith) (omega (arith, few)) in
          held (subst (λ (z : ℕ). StateAt s.m s.n (i + 1) 0 (s.c - 1) lap z) (ap (λ (z : ℕ). (lap + z) % s.b) one) last)
