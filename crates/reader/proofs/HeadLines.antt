-- Lines 1 and 2, way out by way out: what each condition that holds, and none before it, makes of the verdict. Each of the three lines
-- is read as a word and numbers in one way; they differ in what judges the numbers then. From the definitions.
use Rattle.lists.proofs.Kit.{◌≡◌, refl, sym, ap, ◌∙◌, List, [], ◌∷◌, ◌++◌, ℕ, ◌-◌, ◌<◌, ◌≤◌, arith, T, ltb, eqb, length, take, drop, replicate, get_or, drop_of_length-le, append-nil, take_at, lt-ltb, le-ltb, ltb→lt, decided, both_left, both_right, ext_get_or}
use Rattle.std.specs.Prelude.{Option, Some, None, Result, Ok, Err}
use Rattle.std.specs.Option.{ok_or, unwrap_or}
use Rattle.std.specs.Result.{IsErr, IsErrAnd}
use Rattle.std.specs.Array.{IsMapOf}
use Rattle.std.specs.Fn.{Called}
use Rattle.std.proofs.lemmas.List.{drop-replicate}
use denote.Param.Members.{Mut}
use Rattle.refusals.specs.FirstOf.{Check, check, first_of, refusing}
use Rattle.refusals.specs.Conditions.{no_swap, bad_swap, no_order, no_release, first_place}
use Rattle.refusals.specs.Refusal.{number_of, unplaced}
use Rattle.refusals.specs.declared.Refused.{Refused}
use Rattle.refusals.specs.declared.Refusal.{Refusal}
use Rattle.refusals.proofs.Numbers.{refuses}
use Rattle.refusals.proofs.Some.{found_place, no_place}
use Rattle.refusals.proofs.Conditions.{passed}
use Rattle.sheets.specs.Read.{Reading, read_line, tabs}
use Rattle.sheets.specs.Sheet.{shape_word, chain_word, order_word}
use Rattle.sheets.specs.Checks.{sheet_checks}
use Rattle.sheets.specs.Meaning.{Verdict, refuse_if, shape_line, chain_line, line_order, wrong_release, order_fields, order_line}
use Rattle.sheets.proofs.Lines.{line_text}
use Rattle.reader.specs.Swaps.{padded}
use Rattle.reader.specs.Private.{refused_as, told, bad_line, second_numbers, named}

-- an answer that is an error, which a `?` made
pub err_told : {A : Type 0} (goes : A → Verdict) (r : Result A Refused) (x : Refused) → IsErr r × IsErrAnd r (λ e. e ≡ x) → told goes r ≡ refused_as x
err_told goes (Ok a) x h = absurd h.1
err_told goes (Err e) x h = ap refused_as h.1

-- a line that was not read, as a `?` hands it on
pub line_told : {A B : Type 0} (goes : A → Verdict) (r : Result A Refused) (x : Refused) → IsErr r × IsErrAnd r (λ e. e ≡ x)
    → {o : Option B} {e : Refused} (k : ℕ) → Err x ≡ ok_or o e → o ≡ None → e ≡ bad_line k → told goes r ≡ Verdict.refuse 10 k
line_told goes r x h {o} {e} k was none is =
    let q : Err x ≡ ok_or None e = rw none at was in
    let same : x ≡ bad_line k = cc in
    err_told goes r x h ∙ ap refused_as same

-- an array whose items are the same numbers in another type
pub same_items : {F : Type 0} {g : Mut F (ℕ × Unit {0}) ℕ} {f : F} {xs ys : List ℕ} {n : ℕ} → IsMapOf g f xs ys n → length xs ≡ n
    → ((p : F) (x y : ℕ) (q : F) → Called g p (x, tt) y q → y ≡ x) → ys ≡ xs
same_items {xs = xs} {ys = ys} m long same =
    ext_get_or 0 ys xs (m.long ∙ sym long) (λ i h. let s = m.at i 0 0 (omega (arith, m.long)) in same s.0 (get_or xs i 0) (get_or ys i 0) s.1 s.2)

-- numbers that fill all places
pub stored_exact : (us before : List ℕ) {after : List ℕ} → length us ≡ length before → after ≡ us ++ drop (length us) before → after ≡ us
stored_exact us before e s = s ∙ rw (drop_of_length-le before {i = length us} (omega (arith, e)), append-nil us)

-- numbers before zeros, in 32 places
pub record Zeros (us : List ℕ) (n : ℕ) (after : List ℕ) : Type 0 where
  pub front : take n after ≡ us
  pub zeros : after ≡ padded us

pub stored_before_zeros : (us : List ℕ) (n : ℕ) {after : List ℕ} → length us ≡ n → after ≡ us ++ drop (length us) (replicate 32 0) → Zeros us n after
stored_before_zeros us n {after} long s =
    let e : after ≡ padded us = s ∙ ap (λ (l : List ℕ). us ++ l) (drop-replicate (length us) 32 0) in
    record { front = rw (e, sym long) (take_at us (replicate (32 - length us) 0) (length us) refl); zeros = e }

-- conditions of a list refuse in turn, each with the place 0: the first that holds gives the number
abbrev refuse_all : List Check → Verdict → Verdict
refuse_all [] s = s
refuse_all (c ∷ cs) s = refuse_if c.holds c.number 0 (refuse_all cs s)

all_go : (cs : List Check) (s : Verdict) → T (refusing cs) → first_of cs ≡ 0 → refuse_all cs s ≡ s
all_go [] s g e = refl
all_go (c ∷ cs) s g e =
    let p = passed c.holds c.number (first_of cs) (ltb→lt 0 c.number (both_left (ltb 0 c.number) (refusing cs) g)) e in
    rw p.0 (all_go cs s (both_right (ltb 0 c.number) (refusing cs) g) p.1)

all_no : (cs : List Check) (s : Verdict) → (first_of cs ≡ 0 → ⊥) → refuse_all cs s ≡ Verdict.refuse (first_of cs) 0
all_no [] s n = absurd (n refl)
all_no (c ∷ cs) s n = decided c.holds (λ t. rw t) (λ f. rw f (all_no cs s (rw f at n)))

refused_by : (cs : List Check) (s : Verdict) (r : Refusal) → number_of r ≡ first_of cs → refuse_all cs s ≡ refused_as (unplaced r)
refused_by cs s r e = all_no cs s (λ z. refuses r (e ∙ z)) ∙ ap (λ k. Verdict.refuse k 0) (sym e)

-- line 1: four numbers, which are judged as lengths
module _ (buffer bytes : List ℕ) where
  pub shape_long : 16384 < length bytes → shape_line buffer bytes ≡ Verdict.refuse 9 0
  unfolding shape_line
  shape_long h = rw (lt-ltb 16384 (length bytes) h)

  module _ (few : length bytes ≤ 16384) where
    pub shape_form : read_line shape_word 4 bytes ≡ Reading.none → shape_line buffer bytes ≡ Verdict.refuse 10 1
    unfolding shape_line
    shape_form e = rw (le-ltb 16384 (length bytes) few, e)

    module _ {us rest : List ℕ} (e : read_line shape_word 4 bytes ≡ Reading.found us rest) where
      shape_judged : shape_line buffer bytes ≡ refuse_all (sheet_checks us buffer) (Verdict.go us rest)
      unfolding shape_line
      shape_judged = rw (le-ltb 16384 (length bytes) few, e)

      pub shape_no : (r : Refusal) → number_of r ≡ first_of (sheet_checks us buffer) → shape_line buffer bytes ≡ refused_as (unplaced r)
      shape_no r k = shape_judged ∙ refused_by (sheet_checks us buffer) (Verdict.go us rest) r k

      pub shape_go : 0 ≡ first_of (sheet_checks us buffer) → shape_line buffer bytes ≡ Verdict.go us rest
      shape_go k = shape_judged ∙ all_go (sheet_checks us buffer) (Verdict.go us rest) tt (sym k)

-- line 2 of a sheet: so many numbers as the line has tabs, which are judged as swaps
module _ (bytes : List ℕ) {n : ℕ} (t : n ≡ tabs bytes) where
  pub chain_form : read_line chain_word n bytes ≡ Reading.none → chain_line bytes ≡ Verdict.refuse 10 2
  unfolding chain_line
  chain_form e = rw (sym t, e)

  module _ {us rest : List ℕ} (e : read_line chain_word n bytes ≡ Reading.found us rest) where
    pub chain_count : length us ≡ n
    chain_count = (line_text chain_word n bytes e).long

    pub chain_long : 32 < n → chain_line bytes ≡ Verdict.refuse 5 0
    unfolding chain_line
    chain_long h = rw (sym t, e, lt-ltb 32 (length us) (omega (arith, chain_count)))

    pub chain_judged : n ≤ 32 → chain_line bytes ≡ refuse_if (bad_swap 4 us) 6 (first_place (no_swap 4) us) (Verdict.go us rest)
    unfolding chain_line
    chain_judged h = rw (sym t, e, le-ltb 32 (length us) (omega (arith, chain_count)))

    pub chain_bad : n ≤ 32 → {place : ℕ} → place < length us → place ≡ first_place (no_swap 4) us → chain_line bytes ≡ Verdict.refuse 6 place
    chain_bad h k is = chain_judged h ∙ rw (found_place (no_swap 4) us (omega arith), is)

    pub chain_go : n ≤ 32 → first_place (no_swap 4) us ≡ length us → chain_line bytes ≡ Verdict.go us rest
    chain_go h is = chain_judged h ∙ rw (no_place (no_swap 4) us (omega arith))

-- line 2 of a result sheet: a release, where one is named, and an order number
abbrev pub order_checks : List ℕ → List Check
order_checks order = check 14 (wrong_release order) ∷ check 7 (no_order 4 (line_order order)) ∷ []

-- what one number says, or two
pub record Said (us : List ℕ) (p : Option ℕ × ℕ) : Type 0 where
  pub numbers : second_numbers p.0 p.1 ≡ us
  pub checks : first_of (check 14 (no_release (unwrap_or p.0 1)) ∷ check 7 (no_order 4 p.1) ∷ []) ≡ first_of (order_checks us)

-- one number, or two, before zeros in two places
abbrev two_places : List ℕ → List ℕ
two_places us = us ++ drop (length us) (0 ∷ 0 ∷ [])

said_one : (us : List ℕ) → length us ≡ 1 → Said us (named 1 (get_or (two_places us) 0 0) (get_or (two_places us) 1 0))
said_one [] e = absurd (omega arith)
said_one (order ∷ []) e = record { numbers = refl; checks = refl }
said_one (a ∷ b ∷ us) e = absurd (omega arith)

said_two : (us : List ℕ) → length us ≡ 2 → Said us (named 2 (get_or (two_places us) 0 0) (get_or (two_places us) 1 0))
said_two [] e = absurd (omega arith)
said_two (a ∷ []) e = absurd (omega arith)
said_two (release ∷ order ∷ []) e = record { numbers = refl; checks = refl }
said_two (a ∷ b ∷ d ∷ us) e = absurd (omega arith)

pub said : (bytes us : List ℕ) (n : ℕ) {out : List ℕ} → n ≡ order_fields bytes → length us ≡ n → (length us ≤ 2 → out ≡ two_places us)
    → Said us (named n (get_or out 0 0) (get_or out 1 0))
said bytes us n {out} t long stored =
    decided (eqb (tabs bytes) 2)
    (λ e. let two : n ≡ 2 = t ∙ rw e in rw (two, stored (omega arith)) (said_two us (long ∙ two)))
    (λ e. let one : n ≡ 1 = t ∙ rw e in rw (one, stored (omega arith)) (said_one us (long ∙ one)))

-- a release that passed its check is not 0
pub said_named : (p : Option ℕ × ℕ) → 0 ≡ first_of (check 14 (no_release (unwrap_or p.0 1)) ∷ check 7 (no_order 4 p.1) ∷ []) → p.0 ≡ Some 0 → ⊥
said_named p e z = let q : ◌≡◌ {A = ℕ} 0 14 = rw z at e in omega arith

module _ (bytes : List ℕ) {n : ℕ} (t : n ≡ order_fields bytes) where
  pub order_form : read_line order_word n bytes ≡ Reading.none → order_line bytes ≡ Verdict.refuse 10 2
  unfolding order_line
  order_form e = rw (sym t, e)

  module _ {us rest : List ℕ} (e : read_line order_word n bytes ≡ Reading.found us rest) where
    order_judged : order_line bytes ≡ refuse_all (order_checks us) (Verdict.go us rest)
    unfolding order_line
    order_judged = rw (sym t, e)

    pub order_no : (r : Refusal) → number_of r ≡ first_of (order_checks us) → order_line bytes ≡ refused_as (unplaced r)
    order_no r k = order_judged ∙ refused_by (order_checks us) (Verdict.go us rest) r k

    pub order_go : 0 ≡ first_of (order_checks us) → order_line bytes ≡ Verdict.go us rest
    order_go k = order_judged ∙ all_go (order_checks us) (Verdict.go us rest) tt (sym k)
