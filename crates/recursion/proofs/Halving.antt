-- One level of merge and of split: what the stretch, the two halves and the whole are at each step, and that the whole is
-- merged, or split, once both halves are. The slice is read as four parts, the runs of p words and of q words, halved.
use Rattle.lists.proofs.Kit.{◌≡◌, refl, sym, ap, ◌∙◌, subst, List, ◌++◌, append_assoc, ℕ, ◌+◌, ◌-◌, ◌*◌, ◌/◌, ◌≤◌, ◌<◌, arith, length, take, drop, length-append, length-drop, take-append-drop, length-take-le, take_at, drop_at}
use borrow.Rule.Slice.PartMut.{mid_of, put_mid, mid_len}
use Rattle.recursion.specs.Private.{rotated, Runs}
use Rattle.recursion.specs.Merge.{Merged}
use Rattle.lists.proofs.Parts.{second, joined}
use Rattle.recursion.proofs.Four.{Four, four, middle-turned, Halved, halved}
use Rattle.recursion.proofs.Merges.{merged_halves, merged_one}

-- a slice of runs: the stretch that is rotated, and the second half
module _ {n p q : ℕ} {xs : List ℕ} (runs : Runs n p q xs) where
  cuts : Halved n p q
  cuts = halved n p q runs.some

  sum : length xs ≡ n / 2 * (p + q) + (n - n / 2) * (p + q)
  sum = omega (arith, cuts, runs.fill)

  -- the stretch is as long as its two parts
  pub stretch_long : length (mid_of (n / 2 * p) (n * p + n / 2 * q - n / 2 * p) xs) ≡ (n - n / 2) * p + n / 2 * q
  stretch_long = mid_len (n / 2 * p) (n * p + n / 2 * q) xs (omega (arith, cuts, runs.fill)) ∙ omega (arith, cuts)

  pub cut_within : n / 2 * (p + q) ≤ length xs
  cut_within = omega (arith, sum)

  -- what the call on the second half asks
  pub high_runs : {v : List ℕ} → 1 < n → length v + n / 2 * (p + q) ≡ length xs → Runs (n - n / 2) p q v
  high_runs h e = record { some = omega arith; fill = omega (arith, sum) }

-- merge: the stretch comes back rotated as r, then the halves are merged
module _ {n p q : ℕ} {xs r : List ℕ} (runs : Runs n p q xs)
    (turned : r ≡ rotated ((n - n / 2) * p) (mid_of (n / 2 * p) (n * p + n / 2 * q - n / 2 * p) xs)) where
  parts : Four (n / 2 * p) ((n - n / 2) * p) (n / 2 * q) ((n - n / 2) * q) xs
  parts = four (n / 2 * p) ((n - n / 2) * p) (n / 2 * q) ((n - n / 2) * q) xs (omega (arith, cuts runs, runs.fill))

  -- the slice once the stretch is back
  abbrev next : List ℕ
  next = put_mid (n / 2 * p) (n * p + n / 2 * q - n / 2 * p) xs r

  next_is : next ≡ (parts.a ++ parts.c) ++ (parts.b ++ parts.d)
  next_is =
      middle-turned parts (n * p + n / 2 * q - n / 2 * p) (omega (arith, cuts runs)) r turned
      ∙ sym (append_assoc parts.a parts.c (parts.b ++ parts.d))

  low_long : length (parts.a ++ parts.c) ≡ n / 2 * (p + q)
  low_long = length-append parts.a parts.c ∙ omega (arith, cuts runs, parts.la, parts.lc)

  high_long : length (parts.b ++ parts.d) ≡ (n - n / 2) * (p + q)
  high_long = length-append parts.b parts.d ∙ omega (arith, cuts runs, parts.lb, parts.ld)

  pub next_runs : Runs n p q next
  next_runs = record {
    some = runs.some;
    fill = ap length next_is ∙ length-append (parts.a ++ parts.c) (parts.b ++ parts.d) ∙ omega (arith, cuts runs, low_long, high_long);
  }

  low_lent : take (n / 2 * (p + q)) next ≡ parts.a ++ parts.c
  low_lent = ap (take (n / 2 * (p + q))) next_is ∙ take_at (parts.a ++ parts.c) (parts.b ++ parts.d) (n / 2 * (p + q)) low_long

  high_lent : drop (n / 2 * (p + q)) next ≡ parts.b ++ parts.d
  high_lent = ap (drop (n / 2 * (p + q))) next_is ∙ drop_at (parts.a ++ parts.c) (parts.b ++ parts.d) (n / 2 * (p + q)) low_long

  -- both halves merged are the whole merged
  merged_both : {ys zs : List ℕ} → Merged (n / 2) p q (parts.a ++ parts.c) ys → Merged (n - n / 2) p q (parts.b ++ parts.d) zs → Merged n p q xs (ys ++ zs)
  merged_both {ys} {zs} low high =
      let all : n / 2 + (n - n / 2) ≡ n = omega arith in
      let m = merged_halves (n / 2) (n - n / 2) p q parts.a parts.b parts.c parts.d ys zs parts.la parts.lb parts.lc parts.ld low high in
      subst (λ (k : ℕ). Merged k p q xs (ys ++ zs)) all (subst (λ (l : List ℕ). Merged (n / 2 + (n - n / 2)) p q l (ys ++ zs)) (sym parts.whole) m)

  pub merged_whole : {ys zs : List ℕ} → Merged (n / 2) p q (take (n / 2 * (p + q)) next) ys
      → Merged (n - n / 2) p q (mid_of (n / 2 * (p + q)) (length (ys ++ drop (n / 2 * (p + q)) next) - n / 2 * (p + q)) (ys ++ drop (n / 2 * (p + q)) next)) zs
      → Merged n p q xs (put_mid (n / 2 * (p + q)) (length (ys ++ drop (n / 2 * (p + q)) next) - n / 2 * (p + q)) (ys ++ drop (n / 2 * (p + q)) next) zs)
  merged_whole {ys} {zs} low high =
      let within = cut_within next_runs in
      rw (joined (n / 2 * (p + q)) next ys within low.same zs)
      (merged_both
      (subst (λ (l : List ℕ). Merged (n / 2) p q l ys) low_lent low)
      (subst (λ (l : List ℕ). Merged (n - n / 2) p q l zs) (second (n / 2 * (p + q)) next ys within low.same ∙ high_lent) high))

  -- the same of the two parts that the slice was cut in
  pub merged_of_halves : {u v ys zs : List ℕ} → u ≡ take (n / 2 * (p + q)) next → v ≡ drop (n / 2 * (p + q)) next
      → Merged (n / 2) p q u ys → Merged (n - n / 2) p q v zs → Merged n p q xs (ys ++ zs)
  merged_of_halves {ys = ys} {zs = zs} e f low high =
      let within = cut_within next_runs in
      let first = subst (λ (l : List ℕ). Merged (n / 2) p q l ys) e low in
      let last = subst (λ (l : List ℕ). Merged (n - n / 2) p q l zs) (f ∙ sym (second (n / 2 * (p + q)) next ys within first.same)) high in
      subst (λ (l : List ℕ). Merged n p q xs l) (joined (n / 2 * (p + q)) next ys within first.same zs) (merged_whole first last)

  -- of two runs each, the halves are merged as they stand
  pub merged_two : n ≡ 2 → Merged n p q xs next
  merged_two e = rw next_is (merged_both (merged_one (n / 2) p q (parts.a ++ parts.c) (omega arith)) (merged_one (n - n / 2) p q (parts.b ++ parts.d) (omega arith)))

-- both halves of xs are split: s is the slice then
pub record HalvesSplit (n p q : ℕ) (xs s : List ℕ) : Type 0 where
  pub ys : List ℕ
  pub zs : List ℕ
  pub low : Merged (n / 2) p q ys (take (n / 2 * (p + q)) xs)
  pub high : Merged (n - n / 2) p q zs (drop (n / 2 * (p + q)) xs)
  pub back : s ≡ ys ++ zs

-- both came back split
pub halves_split : {n p q : ℕ} {xs u v ys zs s : List ℕ} → u ≡ take (n / 2 * (p + q)) xs → v ≡ drop (n / 2 * (p + q)) xs
    → Merged (n / 2) p q ys u → Merged (n - n / 2) p q zs v → s ≡ ys ++ zs → HalvesSplit n p q xs s
halves_split {n} {p} {q} {ys = ys} {zs = zs} e f low high back = record {
  ys = ys;
  zs = zs;
  low = subst (λ (l : List ℕ). Merged (n / 2) p q ys l) e low;
  high = subst (λ (l : List ℕ). Merged (n - n / 2) p q zs l) f high;
  back = back;
}

-- of two runs each, the halves are split as they stand
pub two_split : {n p q : ℕ} {xs s : List ℕ} → n ≡ 2 → s ≡ xs → HalvesSplit n p q xs s
two_split {n} {p} {q} {xs} e back = record {
  ys = take (n / 2 * (p + q)) xs;
  zs = drop (n / 2 * (p + q)) xs;
  low = merged_one (n / 2) p q (take (n / 2 * (p + q)) xs) (omega arith);
  high = merged_one (n - n / 2) p q (drop (n / 2 * (p + q)) xs) (omega arith);
  back = back ∙ sym (take-append-drop (n / 2 * (p + q)) xs);
}

-- split: the halves come back split as ys and zs, the second one cut from the slice with the first half back; then the stretch is rotated
module _ {n p q : ℕ} {xs ys zs : List ℕ} (runs : Runs n p q xs) (low : Merged (n / 2) p q ys (take (n / 2 * (p + q)) xs))
    (high : Merged (n - n / 2) p q zs (mid_of (n / 2 * (p + q)) (length (ys ++ drop (n / 2 * (p + q)) xs) - n / 2 * (p + q)) (ys ++ drop (n / 2 * (p + q)) xs))) where
  -- the slice once both halves are back
  abbrev both : List ℕ
  both = put_mid (n / 2 * (p + q)) (length (ys ++ drop (n / 2 * (p + q)) xs) - n / 2 * (p + q)) (ys ++ drop (n / 2 * (p + q)) xs) zs

  both_is : both ≡ ys ++ zs
  both_is = joined (n / 2 * (p + q)) xs ys (cut_within runs) (sym low.same) zs

  high_split : Merged (n - n / 2) p q zs (drop (n / 2 * (p + q)) xs)
  high_split = subst (λ (l : List ℕ). Merged (n - n / 2) p q zs l) (second (n / 2 * (p + q)) xs ys (cut_within runs) (sym low.same)) high

  ys_long : length ys ≡ n / 2 * p + n / 2 * q
  ys_long = sym low.same ∙ length-take-le (n / 2 * (p + q)) xs (cut_within runs) ∙ omega (arith, cuts runs)

  zs_long : length zs ≡ (n - n / 2) * p + (n - n / 2) * q
  zs_long = sym high_split.same ∙ length-drop (n / 2 * (p + q)) xs ∙ omega (arith, cuts runs, sum runs)

  pieces : Four (n / 2 * p) (n / 2 * q) ((n - n / 2) * p) ((n - n / 2) * q) both
  pieces = record {
    a = take (n / 2 * p) ys;
    b = drop (n / 2 * p) ys;
    c = take ((n - n / 2) * p) zs;
    d = drop ((n - n / 2) * p) zs;
    la = length-take-le (n / 2 * p) ys (omega (arith, ys_long));
    lb = length-drop (n / 2 * p) ys ∙ omega (arith, ys_long);
    lc = length-take-le ((n - n / 2) * p) zs (omega (arith, zs_long));
    ld = length-drop ((n - n / 2) * p) zs ∙ omega (arith, zs_long);
    whole =
        both_is
        ∙ ap (λ (l : List ℕ). l ++ zs) (sym (take-append-drop (n / 2 * p) ys))
        ∙ ap (λ (l : List ℕ). (take (n / 2 * p) ys ++ drop (n / 2 * p) ys) ++ l) (sym (take-append-drop ((n - n / 2) * p) zs))
        ∙ append_assoc (take (n / 2 * p) ys) (drop (n / 2 * p) ys) (take ((n - n / 2) * p) zs ++ drop ((n - n / 2) * p) zs);
  }

  pub split_whole : {r : List ℕ} → r ≡ rotated (n / 2 * q) (mid_of (n / 2 * p) (n * p + n / 2 * q - n / 2 * p) both)
      → Merged n p q (put_mid (n / 2 * p) (n * p + n / 2 * q - n / 2 * p) both r) xs
  unfolding pieces
  split_whole {r} turned =
      let all : n / 2 + (n - n / 2) ≡ n = omega arith in
      let first : Merged (n / 2) p q (pieces.a ++ pieces.b) (take (n / 2 * (p + q)) xs)
      = subst (λ (l : List ℕ). Merged (n / 2) p q l (take (n / 2 * (p + q)) xs)) (sym (take-append-drop (n / 2 * p) ys)) low in
      let last : Merged (n - n / 2) p q (pieces.c ++ pieces.d) (drop (n / 2 * (p + q)) xs)
      = subst (λ (l : List ℕ). Merged (n - n / 2) p q l (drop (n / 2 * (p + q)) xs)) (sym (take-append-drop ((n - n / 2) * p) zs)) high_split in
      let m = merged_halves (n / 2) (n - n / 2) p q pieces.a pieces.c pieces.b pieces.d (take (n / 2 * (p + q)) xs) (drop (n / 2 * (p + q)) xs)
      pieces.la pieces.lc pieces.lb pieces.ld first last in
      rw (middle-turned pieces (n * p + n / 2 * q - n / 2 * p) (omega (arith, cuts runs)) r turned)
      (subst (λ (k : ℕ). Merged k p q (pieces.a ++ (pieces.c ++ (pieces.b ++ pieces.d))) xs) all
      (subst (λ (l : List ℕ). Merged (n / 2 + (n - n / 2)) p q (pieces.a ++ (pieces.c ++ (pieces.b ++ pieces.d))) l) (take-append-drop (n / 2 * (p + q)) xs) m))

-- the same of the two parts that the slice was cut in: s is the slice with both back
module _ {n p q : ℕ} {xs s : List ℕ} (runs : Runs n p q xs) (halves : HalvesSplit n p q xs s) where
  short : length halves.ys ≡ length (take (n / 2 * (p + q)) xs)
  short = sym halves.low.same

  high_lent_again : Merged (n - n / 2) p q halves.zs
      (mid_of (n / 2 * (p + q)) (length (halves.ys ++ drop (n / 2 * (p + q)) xs) - n / 2 * (p + q)) (halves.ys ++ drop (n / 2 * (p + q)) xs))
  high_lent_again =
      subst (λ (l : List ℕ). Merged (n - n / 2) p q halves.zs l) (sym (second (n / 2 * (p + q)) xs halves.ys (cut_within runs) short)) halves.high

  both_back : both runs halves.low high_lent_again ≡ s
  both_back = both_is runs halves.low high_lent_again ∙ sym halves.back

  pub split_of_halves : {r : List ℕ} → r ≡ rotated (n / 2 * q) (mid_of (n / 2 * p) (n * p + n / 2 * q - n / 2 * p) s)
      → Merged n p q (put_mid (n / 2 * p) (n * p + n / 2 * q - n / 2 * p) s r) xs
  split_of_halves {r} turned =
      subst (λ (l : List ℕ). Merged n p q (put_mid (n / 2 * p) (n * p + n / 2 * q - n / 2 * p) l r) xs) both_back
      (split_whole runs halves.low high_lent_again
      (subst (λ (l : List ℕ). r ≡ rotated (n / 2 * q) (mid_of (n / 2 * p) (n * p + n / 2 * q - n / 2 * p) l)) (sym both_back) turned))
