-- The second line of a sheet and that of a result sheet are read exactly where their text stands; so a sheet is accepted exactly when it
-- is the text of what it is answered with, and so is a result sheet. From the law of lines and the law of accepted sheets.
use Rattle.lists.proofs.Kit.{◌≡◌, refl, sym, ap, subst, ◌∙◌, Bool, true, false, cond, List, [], ◌∷◌, ◌++◌, ◌↔◌, ℕ, zero, suc, ◌≤◌, arith, T, eqb, length, ltb-false, le-ltb, eqb-true, eqb-false, ne_eqb, decided}
use Rattle.refusals.specs.Conditions.{long_chain, no_swap, bad_swap, no_order, no_release, first_place}
use Rattle.sheets.specs.Print.{limit, line}
use Rattle.sheets.specs.Read.{read_line, tabs}
use Rattle.sheets.specs.Sheet.{chain_word, order_word, order_numbers}
use Rattle.sheets.specs.Meaning.{Verdict, Outcome, refuse_if, on_line, chain_line, line_release, line_order, wrong_release, order_fields, order_line, meaning, result_meaning}
use Rattle.sheets.specs.Right.{SheetNumbers, Stands, GoodChain, GoodOrder, Right, RightResult}
use Rattle.sheets.proofs.Lines.{line_then, line_text, text_line, tabs-fields}
use Rattle.sheets.proofs.Steps.{refuse_go, on_line_go, onward_go}
use Rattle.sheets.proofs.Accepted.{none_small, Second, accepted_exactly_by}

a_swap : (k : ℕ) → (no_swap 4) k ≡ false → k ≤ limit
a_swap k e = omega (arith, ltb-false 2 k e)

chain_stands : (bytes : List ℕ) {chain rest : List ℕ} → chain_line bytes ≡ Verdict.go chain rest → (bytes ≡ line chain_word chain ++ rest) × GoodChain chain
unfolding chain_line
chain_stands bytes {chain} {rest} e =
    let checked : List ℕ → List ℕ → Verdict = λ c mid.
    refuse_if (long_chain c) 5 0 (refuse_if (bad_swap 4 c) 6 (first_place (no_swap 4) c) (Verdict.go c mid)) in
    onward_go (on_line 2 (read_line chain_word (tabs bytes) bytes)) checked e
    (λ c mid e₁ e₂.
    let f₁ = refuse_go (long_chain c) 5 0 (refuse_if (bad_swap 4 c) 6 (first_place (no_swap 4) c) (Verdict.go c mid)) e₂ in
    let f₂ = refuse_go (bad_swap 4 c) 6 (first_place (no_swap 4) c) (Verdict.go c mid) f₁.1 in
    let f₃ : Verdict.go c mid ≡ Verdict.go chain rest = f₂.1 in
    let a : c ≡ chain = cc in
    let b : mid ≡ rest = cc in
    rw (← a, ← b) (
      (line_text chain_word (tabs bytes) bytes (on_line_go 2 (read_line chain_word (tabs bytes) bytes) e₁)).bytes,
      record { few_swaps = ltb-false 32 (length c) f₁.0; swaps = f₂.0 },
    ))

-- the tabs before the LF of line 2 are its numbers
pub chain_tabs : (chain rest : List ℕ) → length chain ≡ tabs (line chain_word chain ++ rest)
unfolding tabs
chain_tabs chain rest = rw (line_then chain_word chain rest) (sym (tabs-fields chain rest))

chain_reads : (chain rest : List ℕ) → GoodChain chain → chain_line (line chain_word chain ++ rest) ≡ Verdict.go chain rest
unfolding chain_line
chain_reads chain rest h =
    let held : Stands (line chain_word) (tabs (line chain_word chain ++ rest)) (line chain_word chain ++ rest) chain rest =
    record { bytes = refl; long = chain_tabs chain rest; small = none_small (no_swap 4) a_swap chain h.swaps } in
    rw (text_line chain_word held, le-ltb 32 (length chain) h.few_swaps, h.swaps)

pub chain_second : Second chain_line (line chain_word) GoodChain
chain_second = record { stands = chain_stands; reads = chain_reads }

-- a release that is not refused is 1 or 2
pub one_of_two : (release : ℕ) → no_release release ≡ false → (release ≡ 0 → ⊥) × (release ≤ 2)
one_of_two release e =
    decided (eqb release 1)
    (λ p. let q = eqb-true release 1 p in (λ z. omega arith, omega arith))
    (λ p. decided (eqb release 2)
    (λ q. let r = eqb-true release 2 q in (λ z. omega arith, omega arith))
    (λ q. let n : true ≡ false = rw (p, q) at e in absurd (subst T n tt)))

pub two_known : (release : ℕ) → (release ≡ 0 → ⊥) → release ≤ 2 → no_release release ≡ false
two_known zero n h = absurd (n refl)
two_known (suc zero) n h = refl
two_known (suc (suc zero)) n h = refl
two_known (suc (suc (suc k))) n h = absurd (omega arith)

-- so the numbers that are read are those of a release and an order number
pub good_by : (release k : ℕ) → release ≤ 2 → k ≤ 23 → GoodOrder (order_numbers release k)
good_by release k h i = by (eqb release 0) refl
  where
    by : (t : Bool) → eqb release 0 ≡ t → GoodOrder (cond t (k ∷ []) (release ∷ k ∷ []))
    by true e = record { named = refl; release = omega arith; known = i }
    by false e = record { named = rw e; release = h; known = i }

one_or_two : (t : Bool) (vs : List ℕ) → length vs ≡ cond t 2 1 → wrong_release vs ≡ false → line_order vs ≤ 23 → GoodOrder vs
one_or_two true [] e w k = absurd (omega arith)
one_or_two false [] e w k = absurd (omega arith)
one_or_two t (v ∷ []) e w k = record { named = refl; release = omega arith; known = k }
one_or_two t (release ∷ v ∷ []) e w k =
    let g = one_of_two release w in
    record { named = rw (ne_eqb release 0 g.0); release = g.1; known = k }
one_or_two true (a ∷ b ∷ c ∷ vs) e w k = absurd (omega arith)
one_or_two false (a ∷ b ∷ c ∷ vs) e w k = absurd (omega arith)

order_stands : (bytes : List ℕ) {ns rest : List ℕ} → order_line bytes ≡ Verdict.go ns rest → (bytes ≡ line order_word ns ++ rest) × GoodOrder ns
unfolding order_line
order_stands bytes {ns} {rest} e =
    let last : List ℕ → List ℕ → Verdict = λ c mid. refuse_if (no_order 4 (line_order c)) 7 0 (Verdict.go c mid) in
    let checked : List ℕ → List ℕ → Verdict = λ c mid. refuse_if (wrong_release c) 14 0 (last c mid) in
    onward_go (on_line 2 (read_line order_word (order_fields bytes) bytes)) checked e
    (λ c mid e₁ e₂.
    let f₁ = refuse_go (wrong_release c) 14 0 (last c mid) e₂ in
    let f₂ = refuse_go (no_order 4 (line_order c)) 7 0 (Verdict.go c mid) f₁.1 in
    let f₃ : Verdict.go c mid ≡ Verdict.go ns rest = f₂.1 in
    let a : c ≡ ns = cc in
    let b : mid ≡ rest = cc in
    let h = line_text order_word (order_fields bytes) bytes (on_line_go 2 (read_line order_word (order_fields bytes) bytes) e₁) in
    rw (← a, ← b) (h.bytes, one_or_two (eqb (tabs bytes) 2) c h.long f₁.0 (ltb-false 23 (line_order c) f₂.0)))

-- the tabs before the LF of that line are its numbers too
pub order_tabs : (ns rest : List ℕ) → length ns ≡ tabs (line order_word ns ++ rest)
unfolding tabs
order_tabs ns rest = rw (line_then order_word ns rest) (sym (tabs-fields ns rest))

order_held : (ns rest : List ℕ) → SheetNumbers ns → length ns ≡ cond (eqb (length ns) 2) 2 1 → wrong_release ns ≡ false → line_order ns ≤ 23
    → order_line (line order_word ns ++ rest) ≡ Verdict.go ns rest
unfolding order_line
order_held ns rest small e w k =
    let long : length ns ≡ order_fields (line order_word ns ++ rest) = e ∙ ap (λ (n : ℕ). cond (eqb n 2) 2 1) (order_tabs ns rest) in
    let held : Stands (line order_word) (order_fields (line order_word ns ++ rest)) (line order_word ns ++ rest) ns rest =
    record { bytes = refl; long = long; small = small } in
    rw (text_line order_word held, w, le-ltb 23 (line_order ns) k)

order_by_lem : (release k : ℕ) (rest : List ℕ) → release ≤ 2 → k ≤ 23
    → order_line (line order_word (order_numbers release k) ++ rest) ≡ Verdict.go (order_numbers release k) rest
order_by_lem release k rest h i = by (eqb release 0) refl
  where
    by : (t : Bool) → eqb release 0 ≡ t
        → order_line (line order_word (cond t (k ∷ []) (release ∷ k ∷ [])) ++ rest) ≡ Verdict.go (cond t (k ∷ []) (release ∷ k ∷ [])) rest
    by true e = order_held (k ∷ []) rest (SheetNumbers.more (omega arith) SheetNumbers.none) refl refl i
    by false e =
        order_held (release ∷ k ∷ []) rest (SheetNumbers.more (omega arith) (SheetNumbers.more (omega arith) SheetNumbers.none)) refl
        (two_known release (eqb-false release 0 e) h) i

order_reads : (ns rest : List ℕ) → GoodOrder ns → order_line (line order_word ns ++ rest) ≡ Verdict.go ns rest
order_reads ns rest h =
    subst (λ (l : List ℕ). order_line (line order_word l ++ rest) ≡ Verdict.go l rest) (sym h.named)
    (order_by_lem (line_release ns) (line_order ns) rest h.release h.known)

pub order_second : Second order_line (line order_word) GoodOrder
order_second = record { stands = order_stands; reads = order_reads }

pub accepted_exactly : (buffer bytes ds chain words : List ℕ)
    → (meaning buffer bytes ≡ Outcome.accepted ds chain words) ↔ Right buffer bytes ds chain words
accepted_exactly = accepted_exactly_by chain_second

pub result_exactly : (buffer bytes ds numbers words : List ℕ)
    → (result_meaning buffer bytes ≡ Outcome.accepted ds numbers words) ↔ RightResult buffer bytes ds numbers words
result_exactly = accepted_exactly_by order_second
