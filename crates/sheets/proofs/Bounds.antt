-- A refusal's number is 1 to 24 and its place fits a number of a sheet, so that its line can be written. The places are 0, a line
-- number, at most the rows and 3, or the place of a swap in a chain of at most 32.
use Rattle.lists.proofs.Kit.{◌≡◌, refl, Bool, true, false, cond, List, [], ◌∷◌, ℕ, zero, suc, ◌+◌, ◌<◌, ◌≤◌, arith, length, ltb-false}
use Rattle.refusals.specs.Conditions.{bad_length, short_buffer, long_chain, bad_swap, no_swap, no_order, first_place}
use Rattle.sheets.specs.Print.{limit}
use Rattle.sheets.specs.Read.{Reading, read_line, tabs}
use Rattle.sheets.specs.Sheet.{shape_word, chain_word, order_word, row_word, row_count, row_width}
use Rattle.sheets.specs.Meaning.{Verdict, Outcome, long_sheet, big_sheet, refuse_if, on_line, onward, behind, conclude, ended, shape_line, chain_line, line_order, wrong_release, order_fields, order_line, row_lines, meaning_by, meaning, result_meaning}
use Rattle.sheets.proofs.Accepted.{shape_read}
use Rattle.sheets.proofs.Length.{rows_le_words}

-- the number and the place of a refusal
pub record Bounded (number place : ℕ) : Type 0 where
  pub given : 0 < number
  pub known : number ≤ 24
  pub near : place ≤ limit

-- a step that goes on, or refuses within these bounds
data Kept : Verdict → Type 0 where
  refuses : {number place : ℕ} → Bounded number place → Kept (Verdict.refuse number place)
  goes : {vs rest : List ℕ} → Kept (Verdict.go vs rest)

bounds : (number place : ℕ) → 0 < number → number ≤ 24 → place ≤ limit → Bounded number place
bounds number place a b c = record { given = a; known = b; near = c }

condition : (t : Bool) (number place : ℕ) {next : Verdict} → (t ≡ true → Bounded number place) → (t ≡ false → Kept next) → Kept (refuse_if t number place next)
condition true number place h n = refuses (h refl)
condition false number place h n = n refl

form : (k : ℕ) (x : Reading (List ℕ)) → k ≤ limit → Kept (on_line k x)
form k Reading.none h = refuses (bounds 10 k (omega arith) (omega arith) h)
form k (Reading.found vs rest) h = goes

onwards : {s : Verdict} (f : List ℕ → List ℕ → Verdict) → Kept s → ((vs rest : List ℕ) → Kept (f vs rest)) → Kept (onward s f)
onwards f (refuses h) k = refuses h
onwards f (goes {vs} {rest}) k = k vs rest

before : (ws : List ℕ) {s : Verdict} → Kept s → Kept (behind ws s)
before ws (refuses h) = refuses h
before ws goes = goes

at-end : (k : ℕ) (bs : List ℕ) → k ≤ limit → Kept (ended k bs)
unfolding ended
at-end k [] h = goes
at-end k (b ∷ bs) h = refuses (bounds 10 k (omega arith) (omega arith) h)

first_inside : (f : ℕ → Bool) (vs : List ℕ) → first_place f vs ≤ length vs
unfolding first_place
first_inside f [] = omega arith
first_inside f (v ∷ vs) = by (f v) (first_inside f vs)
  where
    by : (t : Bool) → first_place f vs ≤ length vs → cond t 0 (suc (first_place f vs)) ≤ suc (length vs)
    by true h = omega arith
    by false h = omega arith

shape_kept : (buffer bytes : List ℕ) → Kept (shape_line buffer bytes)
unfolding shape_line
shape_kept buffer bytes =
    condition (long_sheet bytes) 9 0 (λ _. bounds 9 0 (omega arith) (omega arith) (omega arith))
    (λ _. onwards (λ (ds : List ℕ) (rest : List ℕ). refuse_if (bad_length ds) 1 0 (refuse_if (big_sheet ds) 11 0 (refuse_if (short_buffer ds buffer) 3 0 (Verdict.go ds rest))))
    (form 1 (read_line shape_word 4 bytes) (omega arith))
    (λ ds rest. condition (bad_length ds) 1 0 (λ _. bounds 1 0 (omega arith) (omega arith) (omega arith))
    (λ _. condition (big_sheet ds) 11 0 (λ _. bounds 11 0 (omega arith) (omega arith) (omega arith))
    (λ _. condition (short_buffer ds buffer) 3 0 (λ _. bounds 3 0 (omega arith) (omega arith) (omega arith)) (λ _. goes)))))

chain_kept : (bytes : List ℕ) → Kept (chain_line bytes)
unfolding chain_line
chain_kept bytes =
    onwards (λ (chain : List ℕ) (rest : List ℕ). refuse_if (long_chain chain) 5 0 (refuse_if (bad_swap 4 chain) 6 (first_place (no_swap 4) chain) (Verdict.go chain rest)))
    (form 2 (read_line chain_word (tabs bytes) bytes) (omega arith))
    (λ chain rest. condition (long_chain chain) 5 0 (λ _. bounds 5 0 (omega arith) (omega arith) (omega arith))
    (λ short. condition (bad_swap 4 chain) 6 (first_place (no_swap 4) chain)
    (λ _. bounds 6 (first_place (no_swap 4) chain) (omega arith) (omega arith) (omega (arith, ltb-false 32 (length chain) short, first_inside (no_swap 4) chain)))
    (λ _. goes)))

order_kept : (bytes : List ℕ) → Kept (order_line bytes)
unfolding order_line
order_kept bytes =
    onwards (λ (ns : List ℕ) (rest : List ℕ). refuse_if (wrong_release ns) 14 0 (refuse_if (no_order 4 (line_order ns)) 7 0 (Verdict.go ns rest)))
    (form 2 (read_line order_word (order_fields bytes) bytes) (omega arith))
    (λ ns rest. condition (wrong_release ns) 14 0 (λ _. bounds 14 0 (omega arith) (omega arith) (omega arith))
    (λ _. condition (no_order 4 (line_order ns)) 7 0 (λ _. bounds 7 0 (omega arith) (omega arith) (omega arith)) (λ _. goes)))

rows_kept : (k count n : ℕ) (bytes : List ℕ) → k + count ≤ limit → Kept (row_lines k count n bytes)
unfolding row_lines
rows_kept k zero n bytes h = at-end k bytes (omega arith)
rows_kept k (suc count) n bytes h =
    onwards (λ (ws : List ℕ) (rest : List ℕ). behind ws (row_lines (suc k) count n rest)) (form k (read_line row_word n bytes) (omega arith))
    (λ ws rest. before ws (rows_kept (suc k) count n rest (omega arith)))

-- an outcome that is accepted, or refused within these bounds
pub data Within : Outcome → Type 0 where
  refused : {number place : ℕ} → Bounded number place → Within (Outcome.refused number place)
  accepted : {ds chain words : List ℕ} → Within (Outcome.accepted ds chain words)

concludes : (s : Verdict) (f : List ℕ → List ℕ → Outcome) → Kept s → ((vs rest : List ℕ) → s ≡ Verdict.go vs rest → Within (f vs rest)) → Within (conclude s f)
concludes (Verdict.refuse number place) f (refuses h) k = refused h
concludes (Verdict.go vs rest) f goes k = k vs rest refl

within_by : (second : List ℕ → Verdict) → ((bytes : List ℕ) → Kept (second bytes)) → (buffer bytes : List ℕ) → Within (meaning_by second buffer bytes)
unfolding meaning_by
within_by second bounded buffer bytes =
    let last : List ℕ → List ℕ → List ℕ → List ℕ → Outcome = λ ds ns words end. Outcome.accepted ds ns words in
    let rows : List ℕ → List ℕ → List ℕ → Outcome = λ ds ns mid. conclude (row_lines 3 (row_count ds) (row_width ds) mid) (last ds ns) in
    concludes (shape_line buffer bytes) (λ (ds : List ℕ) (rest : List ℕ). conclude (second rest) (rows ds)) (shape_kept buffer bytes)
    (λ ds rest e.
    let h = shape_read buffer bytes e in
    let few : 3 + row_count ds ≤ limit = omega (arith, h.few_words, rows_le_words ds (omega (arith, h.held.long)) h.lengths) in
    concludes (second rest) (rows ds) (bounded rest)
    (λ ns mid _. concludes (row_lines 3 (row_count ds) (row_width ds) mid) (last ds ns) (rows_kept 3 (row_count ds) (row_width ds) mid few)
    (λ words end _. accepted)))

pub meaning_within : (buffer bytes : List ℕ) → Within (meaning buffer bytes)
meaning_within = within_by chain_line chain_kept

pub result_within : (buffer bytes : List ℕ) → Within (result_meaning buffer bytes)
result_within = within_by order_line order_kept
