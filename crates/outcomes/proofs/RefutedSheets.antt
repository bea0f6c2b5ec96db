-- Wrong versions of the sheet readers, the writers and the whole job, as tables. Their promises are equations, so the right outcome is what they say.
use Rattle.lists.proofs.Kit.{◌≡◌, refl, ap, ◌∙◌, Bool, true, false, List, [], ◌∷◌, ◌++◌, ℕ, length, take, drop, replicate}
use Rattle.layout.specs.Layout.{volume, at, pick, coords, place_of, places, laid}
use Rattle.orders.specs.Chains.{exchange, follow, named}
use Rattle.orders.specs.Numbers.{arrangements, orders, rank, number_of}
use Rattle.orders.specs.Needs.{swap_need, chain_need}
use Rattle.refusals.specs.FirstOf.{Check, check, first_of}
use Rattle.refusals.specs.Conditions.{bad_length, short_buffer, long_chain, bad_swap, no_order, first_place}
use Rattle.sheets.specs.Print.{digits, decimal, field, fields, line}
use Rattle.sheets.specs.Read.{Reading, read_more, read_number, read_field, read_fields, closed, read_line, tabs}
use Rattle.sheets.specs.Sheet.{shape_word, chain_word, order_word, row_word, row_count, row_width, rows_text, sheet_text, result_text, result_by, refusal_text}
use Rattle.sheets.specs.Meaning.{Verdict, long_sheet, big_sheet, shape_line, chain_line, order_line, line_order, wrong_release, order_fields, row_lines, ended, meaning, result_meaning, meaning_by}
use Rattle.reader.specs.declared.Sheet.{Sheet}
use Rattle.reader.specs.declared.ResultSheet.{ResultSheet}
use Rattle.reader.specs.Reader.{answer, kept, ReadPromise}
use Rattle.reader.specs.ResultReader.{result_answer, ReadResultPromise}
use Rattle.writer.specs.declared.Written.{Written}
use Rattle.writer.specs.Writer.{short_bytes, writer_checks, release_checks, written, written_to, WriteResultPromise, WriteReleasePromise}
use Rattle.writer.specs.RefusalWriter.{WriteRefusalPromise}
use Rattle.job.specs.Job.{job_words, job_scratch, job_text, job_number, job_place, JobPromise}
use Rattle.outcomes.specs.Wrong.{Case, Row, Refuted}
use Rattle.outcomes.proofs.Wrong.{refuted}
use Rattle.outcomes.specs.Wrong.Row.{wrong, gives, late, refuses}
use Rattle.outcomes.proofs.Shapes.{Slice, words}

-- The conditions of a sheet in the reading order, each over what the lines before it say, read as far as they can be even where one of them is at fault: so
-- that two faults of one sheet can both be seen.
abbrev numbers : Reading (List ℕ) → List ℕ
numbers Reading.none = []
numbers (Reading.found vs rest) = vs

abbrev behind : Reading (List ℕ) → List ℕ
behind Reading.none = []
behind (Reading.found vs rest) = rest

abbrev malformed : Reading (List ℕ) → Bool
malformed Reading.none = true
malformed (Reading.found vs rest) = false

abbrev refusing : Verdict → Bool
refusing (Verdict.refuse k l) = true
refusing (Verdict.go vs rest) = false

-- the second line by its word, how many numbers it must have, and its conditions
abbrev checks_of_sheet : List ℕ → (List ℕ → ℕ) → (List ℕ → List Check) → List ℕ → List ℕ → List Check
checks_of_sheet word count conditions buffer bytes =
    let ds = numbers (read_fields 4 (drop (length shape_word) bytes)) in
    let second = behind (read_line shape_word 4 bytes) in
    let rows = behind (read_line word (count second) second) in
    check 9 (long_sheet bytes)
    ∷ check 10 (malformed (read_line shape_word 4 bytes))
    ∷ check 1 (bad_length ds)
    ∷ check 11 (big_sheet ds)
    ∷ check 3 (short_buffer ds buffer)
    ∷ check 10 (malformed (read_line word (count second) second))
    ∷ (conditions (numbers (read_fields (count second) (drop (length word) second)))
    ++ (check 10 (refusing (row_lines 3 (row_count ds) (row_width ds) rows)) ∷ []))

abbrev pub read : List ℕ → List ℕ → Case (Slice Sheet)
read buffer bytes = record {
  Promise = λ o. ReadPromise buffer bytes o.answer o.words;
  checks = checks_of_sheet chain_word tabs (λ chain. check 5 (long_chain chain) ∷ check 6 (bad_swap 4 chain) ∷ []) buffer bytes;
  number = λ o. o.answer.number;
  right = record { answer = answer (meaning buffer bytes); words = kept (meaning buffer bytes) buffer };
  seen = true;
  only = λ t o p i. record { answer = p.answers i; words = p.words i };
}

abbrev pub read_result : List ℕ → List ℕ → Case (Slice ResultSheet)
read_result buffer bytes = record {
  Promise = λ o. ReadResultPromise buffer bytes o.answer o.words;
  checks = checks_of_sheet order_word order_fields (λ ns. check 14 (wrong_release ns) ∷ check 7 (no_order 4 (line_order ns)) ∷ []) buffer bytes;
  number = λ o. o.answer.number;
  right = record { answer = result_answer (result_meaning buffer bytes); words = kept (result_meaning buffer bytes) buffer };
  seen = true;
  only = λ t o p i. record { answer = p.answers i; words = p.words i };
}

abbrev place : Slice Sheet → List ℕ
place o = o.answer.place ∷ []

abbrev swaps : Slice Sheet → List ℕ
swaps o = o.answer.swaps

abbrev count : Slice Sheet → List ℕ
count o = o.answer.count ∷ []

-- the sheet of document 01, two rows of three words and the chain 2, read into seven words that all hold 9
abbrev nines : List ℕ
nines = replicate 7 9

abbrev right : Case (Slice Sheet)
right = read nines (sheet_text (1 ∷ 1 ∷ 2 ∷ 3 ∷ []) (2 ∷ []) (1 ∷ 2 ∷ 3 ∷ 4 ∷ 5 ∷ 6 ∷ []))

-- the first line of a sheet, that of one word, and its two first lines
abbrev shape : List ℕ → List ℕ
shape ds = line shape_word ds

abbrev good : List ℕ
good = shape (1 ∷ 1 ∷ 1 ∷ 1 ∷ [])

abbrev chained : List ℕ → List ℕ
chained rest = good ++ line chain_word [] ++ rest

-- a row `007`
abbrev zeros : List ℕ
zeros = 9 ∷ 48 ∷ 48 ∷ 55 ∷ 10 ∷ []

abbrev pub sheets : List (Row (Slice Sheet))
sheets =
    refuses "read/refuses-always" right
    -- the answer for the right sheet always: for an empty one
    ∷ gives "read/fixed-answer" (read nines []) right.right.answer.number
    ∷ wrong "read/stores-nothing" right words nines
    ∷ wrong "read/later-word-changed" right words (1 ∷ 2 ∷ 3 ∷ 4 ∷ 5 ∷ 6 ∷ 0 ∷ [])
    -- as the calls on blocks do
    ∷ gives "read/longer-buffer-refused" right 13
    ∷ wrong "read/count-invented" right count (2 ∷ [])
    ∷ wrong "read/unused-place-filled" right swaps (2 ∷ 2 ∷ replicate 30 0)
    -- swap 3; a word stored before the last row is seen
    ∷ wrong "read/stores-where-it-refuses" (read nines (sheet_text (1 ∷ 1 ∷ 1 ∷ 2 ∷ []) (3 ∷ []) (1 ∷ 2 ∷ []))) words (1 ∷ 2 ∷ 9 ∷ 9 ∷ 9 ∷ 9 ∷ 9 ∷ [])
    ∷ wrong "read/stored-before-the-last-row" (read nines (shape (1 ∷ 1 ∷ 2 ∷ 1 ∷ []) ++ line chain_word [] ++ line row_word (5 ∷ []))) words
    (5 ∷ 9 ∷ 9 ∷ 9 ∷ 9 ∷ 9 ∷ 9 ∷ [])
    ∷ gives "read/leading-zeros-accepted" (read nines (chained (row_word ++ zeros))) 0
    ∷ gives "read/unclosed-row-accepted" (read nines (chained (row_word ++ (9 ∷ 55 ∷ [])))) 0
    ∷ gives "read/line-feed-behind-accepted" (read nines (chained (line row_word (7 ∷ []) ++ (10 ∷ [])))) 0
    -- the place of a line that is left over, of the first line, of a row; of a swap; elsewhere it is 0
    ∷ wrong "read/left-over-at-the-last-row" (read nines (chained (line row_word (7 ∷ []) ++ (10 ∷ [])))) place (3 ∷ [])
    ∷ wrong "read/lines-from-0" (read nines []) place (0 ∷ [])
    ∷ wrong "read/rows-from-1" (read nines (chained (row_word ++ zeros))) place (1 ∷ [])
    ∷ wrong "read/place-of-a-right-swap" (read nines (good ++ line chain_word (0 ∷ 3 ∷ []))) place (0 ∷ [])
    ∷ wrong "read/place-of-a-length" (read nines (shape (1 ∷ 4097 ∷ 1 ∷ 1 ∷ []))) place (1 ∷ [])
    -- of two neighbours of the reading order the later is answered: the form of line 1 and 1, 1 and 11, 11 and 3, 3 and the form of line 2, that and 5, 5 and 6,
    -- 6 and rows
    ∷ late "read/one-before-ten" (read nines (shape_word ++ fields (0 ∷ 1 ∷ 1 ∷ 1 ∷ []))) 1 10
    ∷ late "read/eleven-before-one" (read nines (shape (4097 ∷ 1 ∷ 1 ∷ 1 ∷ []))) 11 1
    ∷ late "read/three-before-eleven" (read nines (shape (1025 ∷ 1 ∷ 1 ∷ 1 ∷ []))) 3 11
    ∷ late "read/ten-before-three" (read nines (shape (8 ∷ 1 ∷ 1 ∷ 1 ∷ []))) 10 3
    ∷ late "read/five-before-ten" (read nines (good ++ chain_word ++ fields (replicate 33 0))) 5 10
    ∷ late "read/six-before-five" (read nines (good ++ line chain_word (3 ∷ replicate 32 0))) 6 5
    ∷ late "read/ten-before-six" (read nines (good ++ line chain_word (0 ∷ 3 ∷ []))) 10 6
    ∷ []

pub sheets_refuted : Refuted sheets
unfolding sheet_text rows_text row_count row_width volume first_place line fields field decimal digits read_more read_number read_field read_fields closed read_line tabs shape_line chain_line row_lines ended meaning_by
sheets_refuted = refuted sheets refl

-- 9 and the form of line 1
abbrev pub long_sheets : List (Row (Slice Sheet))
long_sheets = late "read/ten-before-nine" (read nines (replicate 16385 48)) 10 9 ∷ []

pub long_sheets_refuted : Refuted long_sheets
unfolding row_count row_width volume first_place read_more read_number read_field read_fields closed read_line tabs shape_line chain_line row_lines ended meaning_by
long_sheets_refuted = refuted long_sheets refl

abbrev result_place : Slice ResultSheet → List ℕ
result_place o = o.answer.place ∷ []

abbrev result_lengths : Slice ResultSheet → List ℕ
result_lengths o = o.answer.lengths

abbrev release : Slice ResultSheet → List ℕ
release o = o.answer.release ∷ []

abbrev order : Slice ResultSheet → List ℕ
order o = o.answer.order ∷ []

-- the sheet that document 01's comes to, three rows of two words and the order 1; one that names release 2 and order 9
abbrev result : Case (Slice ResultSheet)
result = read_result nines (result_text (1 ∷ 1 ∷ 3 ∷ 2 ∷ []) 1 (1 ∷ 4 ∷ 2 ∷ 5 ∷ 3 ∷ 6 ∷ []))

abbrev released : Case (Slice ResultSheet)
released = read_result nines (result_by (1 ∷ 1 ∷ 1 ∷ 1 ∷ []) 2 9 (7 ∷ []))

-- two lines of a one-word block, line 2 having these numbers, and what follows them; the row of that word
abbrev titled : List ℕ → List ℕ → Case (Slice ResultSheet)
titled ns rest = read_result nines (good ++ line order_word ns ++ rest)

abbrev seven : List ℕ
seven = line row_word (7 ∷ [])

abbrev pub results : List (Row (Slice ResultSheet))
results =
    refuses "read_result/refuses-always" result
    -- the answer for the right sheet always: for an empty one
    ∷ gives "read_result/fixed-answer" (read_result nines []) result.right.answer.number
    -- the order number as the place, or lost; release 1 said of a sheet that names none; the lengths before the turn
    ∷ wrong "read_result/order-as-place" result result_place (1 ∷ [])
    ∷ wrong "read_result/order-lost" result order (0 ∷ [])
    ∷ wrong "read_result/release-invented" result release (1 ∷ [])
    ∷ wrong "read_result/other-lengths" result result_lengths (1 ∷ 1 ∷ 2 ∷ 3 ∷ [])
    ∷ wrong "read_result/stores-nothing" result words nines
    ∷ wrong "read_result/later-word-changed" result words (1 ∷ 4 ∷ 2 ∷ 5 ∷ 3 ∷ 6 ∷ 0 ∷ [])
    -- the release lost, the order read as 18, the release taken for the order
    ∷ wrong "read_result/release-lost" released release (0 ∷ [])
    ∷ wrong "read_result/inverse-read" released order (18 ∷ [])
    ∷ wrong "read_result/release-as-order" released order (2 ∷ [])
    -- the second row, `6`, is not closed: the word of the first is not stored
    ∷ wrong "read_result/stored-before-the-last-row"
    (read_result nines (shape (1 ∷ 1 ∷ 2 ∷ 1 ∷ []) ++ line order_word (0 ∷ []) ++ line row_word (5 ∷ []) ++ row_word ++ (9 ∷ 54 ∷ []))) words
    (5 ∷ 9 ∷ 9 ∷ 9 ∷ 9 ∷ 9 ∷ 9 ∷ [])
    -- behind the last row a digit, an LF, the row again
    ∷ gives "read_result/byte-behind-accepted" (titled (0 ∷ []) (seven ++ (48 ∷ []))) 0
    ∷ gives "read_result/line-feed-behind-accepted" (titled (0 ∷ []) (seven ++ (10 ∷ []))) 0
    ∷ gives "read_result/row-behind-accepted" (titled (0 ∷ []) (seven ++ seven)) 0
    -- releases that there are not, a known one with order 24; order 24 alone
    ∷ gives "read_result/release-24-accepted" (titled (24 ∷ 1 ∷ []) seven) 0
    ∷ gives "read_result/release-0-accepted" (titled (0 ∷ 5 ∷ []) seven) 0
    ∷ gives "read_result/released-order-24-accepted" (titled (1 ∷ 24 ∷ []) seven) 0
    ∷ gives "read_result/order-24-accepted" (titled (24 ∷ []) seven) 0
    -- three numbers, none, a chain; 007 as order number and in a row; a row without its word, no row
    ∷ gives "read_result/three-numbers-accepted" (titled (1 ∷ 2 ∷ 3 ∷ []) seven) 0
    ∷ gives "read_result/no-number-accepted" (titled [] seven) 0
    ∷ gives "read_result/chain-accepted" (read_result nines (good ++ line chain_word (0 ∷ []) ++ seven)) 0
    ∷ gives "read_result/leading-zeros-of-the-order-accepted" (read_result nines (good ++ order_word ++ zeros ++ seven)) 0
    ∷ gives "read_result/leading-zeros-of-a-word-accepted" (titled (0 ∷ []) (row_word ++ zeros)) 0
    ∷ gives "read_result/row-without-words-accepted" (titled (2 ∷ 9 ∷ []) (line row_word [])) 0
    ∷ gives "read_result/missing-row-accepted" (titled (23 ∷ []) []) 0
    -- the place of a line that is left over, of line 2, of a row; elsewhere it is 0
    ∷ wrong "read_result/left-over-at-the-last-row" (titled (0 ∷ []) (seven ++ (10 ∷ []))) result_place (3 ∷ [])
    ∷ wrong "read_result/lines-from-0" (titled [] seven) result_place (1 ∷ [])
    ∷ wrong "read_result/rows-from-1" (titled (23 ∷ []) []) result_place (1 ∷ [])
    ∷ wrong "read_result/place-of-an-order" (titled (24 ∷ []) seven) result_place (2 ∷ [])
    -- of two neighbours of the reading order the later is answered: as of a sheet, then the form of line 2 and 14, that form and 7, 14 and 7, 7 and rows
    ∷ late "read_result/one-before-ten" (read_result nines (shape_word ++ fields (0 ∷ 1 ∷ 1 ∷ 1 ∷ []))) 1 10
    ∷ late "read_result/eleven-before-one" (read_result nines (shape (4097 ∷ 1 ∷ 1 ∷ 1 ∷ []))) 11 1
    ∷ late "read_result/three-before-eleven" (read_result nines (shape (1025 ∷ 1 ∷ 1 ∷ 1 ∷ []))) 3 11
    ∷ late "read_result/ten-before-three" (read_result nines (shape (8 ∷ 1 ∷ 1 ∷ 1 ∷ []))) 10 3
    ∷ late "read_result/fourteen-before-ten" (read_result nines (good ++ order_word ++ fields (3 ∷ 9 ∷ []))) 14 10
    ∷ late "read_result/seven-before-ten" (read_result nines (good ++ order_word ++ fields (24 ∷ []))) 7 10
    ∷ late "read_result/seven-before-fourteen" (titled (3 ∷ 24 ∷ []) seven) 7 14
    ∷ late "read_result/ten-before-seven" (titled (24 ∷ []) (line row_word [])) 10 7
    ∷ []

pub results_refuted : Refuted results
unfolding result_by rows_text row_count row_width volume line fields field decimal digits read_more read_number read_field read_fields closed read_line tabs shape_line order_line row_lines ended meaning_by
results_refuted = refuted results refl

abbrev pub long_results : List (Row (Slice ResultSheet))
long_results = late "read_result/ten-before-nine" (read_result nines (replicate 16385 48)) 10 9 ∷ []

pub long_results_refuted : Refuted long_results
unfolding row_count row_width volume read_more read_number read_field read_fields closed read_line tabs shape_line order_line row_lines ended meaning_by
long_results_refuted = refuted long_results refl

-- a text over the first bytes of what was lent
abbrev over : List ℕ → List ℕ → List ℕ
over text out = text ++ drop (length text) out

-- a writer by its checks and its text
abbrev writing : (checks : List Check) (text out : List ℕ) (Promise : Written → List ℕ → Type 0)
    → ((o : Slice Written) → Promise o.answer o.words → (o.answer ≡ written (first_of checks) text) × (o.words ≡ written_to (first_of checks) text out))
    → Case (Slice Written)
writing checks text out Promise is = record {
  Promise = λ o. Promise o.answer o.words;
  checks = checks;
  number = λ o. o.answer.number;
  right = record { answer = written (first_of checks) text; words = written_to (first_of checks) text out };
  seen = true;
  only = λ t o p. let q = is o p in λ i. record { answer = q.0 i; words = q.1 i };
}

abbrev pub write : List ℕ → ℕ → List ℕ → List ℕ → Case (Slice Written)
write ds k ws out = writing (writer_checks ds k ws out) (result_text ds k ws) out (WriteResultPromise ds k ws out) (λ o p. (p.answers, p.bytes))

abbrev pub write_release : List ℕ → ℕ → ℕ → List ℕ → List ℕ → Case (Slice Written)
write_release ds r k ws out = writing (release_checks ds r k ws out) (result_by ds r k ws) out (WriteReleasePromise ds r k ws out) (λ o p. (p.answers, p.bytes))

abbrev pub write_refusal : ℕ → ℕ → List ℕ → Case (Slice Written)
write_refusal k l out =
    writing (check 24 (short_bytes (refusal_text k l) out) ∷ []) (refusal_text k l) out (WriteRefusalPromise k l out) (λ o p. (p.answers, p.bytes))

abbrev written_count : Slice Written → List ℕ
written_count o = o.answer.count ∷ []

-- one row of two words, 7 and 8, order 1, a third word behind the block, and 32 bytes that all hold 1, of which the sheet takes 30; number 9 in release 2 of the
-- one word 7, and 31 bytes, of which the sheet takes 30; the line of refusal 6 at place 0, which takes 12
abbrev row : List ℕ
row = 1 ∷ 1 ∷ 1 ∷ 2 ∷ []

abbrev one : List ℕ
one = 1 ∷ 1 ∷ 1 ∷ 1 ∷ []

abbrev three : List ℕ
three = 7 ∷ 8 ∷ 9 ∷ []

abbrev ones : ℕ → List ℕ
ones n = replicate n 1

abbrev writes : Case (Slice Written)
writes = write row 1 three (ones 32)

abbrev releases : Case (Slice Written)
releases = write_release one 2 9 (7 ∷ []) (ones 31)

abbrev pub texts : List (Row (Slice Written))
texts =
    refuses "write/refuses-always" writes
    -- the answer of the case always: where a length is 0
    ∷ gives "write/fixed-answer" (write (0 ∷ 1 ∷ 1 ∷ 1 ∷ []) 1 three (ones 32)) writes.right.answer.number
    ∷ wrong "write/writes-nothing" writes words (ones 32)
    ∷ wrong "write/writes-one-place-later" writes words (over (1 ∷ result_text row 1 three) (ones 32))
    ∷ wrong "write/order-number-always-0" writes words (over (result_text row 0 three) (ones 32))
    -- the lengths before the swap
    ∷ wrong "write/other-lengths" (write row 1 three (ones 34)) words (over (result_text (1 ∷ 1 ∷ 2 ∷ 1 ∷ []) 1 three) (ones 34))
    ∷ wrong "write/later-byte-changed" writes words (over (result_text row 1 three ++ (0 ∷ [])) (ones 32))
    ∷ wrong "write/one-byte-more" writes written_count (31 ∷ [])
    -- a buffer one byte short
    ∷ wrong "write/written-before-measured" (write row 1 three (ones 29)) words (115 ∷ ones 28)
    ∷ gives "write/short-buffer-accepted" (write row 1 three (ones 29)) 0
    ∷ late "write/eleven-before-one" (write (4097 ∷ 1 ∷ 1 ∷ 1 ∷ []) 1 three (ones 32)) 11 1
    ∷ late "write/three-before-eleven" (write (1025 ∷ 1 ∷ 1 ∷ 1 ∷ []) 1 [] (ones 32)) 3 11
    ∷ late "write/seven-before-three" (write row 24 [] (ones 32)) 7 3
    ∷ late "write/twenty-four-before-seven" (write row 24 three []) 24 7
    ∷ refuses "write_release/refuses-always" releases
    ∷ wrong "write_release/release-left-out" releases words (over (result_by one 0 9 (7 ∷ [])) (ones 31))
    -- the number of the inverse, the numbers the other way about
    ∷ wrong "write_release/inverse-written" releases words (over (result_by one 2 18 (7 ∷ [])) (ones 31))
    ∷ wrong "write_release/number-first" releases words (over (result_by one 9 2 (7 ∷ [])) (ones 31))
    -- as if none were named
    ∷ gives "write_release/release-0-accepted" (write_release one 0 9 (7 ∷ []) (ones 31)) 0
    ∷ late "write_release/seven-before-fourteen" (write_release one 3 24 (7 ∷ []) (ones 31)) 7 14
    ∷ late "write_release/twenty-four-before-fourteen" (write_release one 3 9 (7 ∷ []) []) 24 14
    ∷ late "write_release/fourteen-before-three" (write_release one 3 9 [] (ones 31)) 14 3
    ∷ refuses "write_refusal/refuses-always" (write_refusal 6 0 (ones 12))
    ∷ wrong "write_refusal/number-said-twice" (write_refusal 6 0 (ones 12)) words (refusal_text 6 6)
    ∷ gives "write_refusal/measured-short" (write_refusal 6 0 (ones 11)) 0
    ∷ []

pub texts_refuted : Refuted texts
unfolding volume result_by rows_text row_count row_width refusal_text line fields field decimal digits
texts_refuted = refuted texts refl

-- The whole job, on what it is lent: 1,024 words, as many of scratch, 16,384 bytes.
pub record Job : Type 0 where
  pub number : ℕ
  pub place : ℕ
  pub count : ℕ
  pub words : List ℕ
  pub scratch : List ℕ
  pub out : List ℕ

abbrev lent : List ℕ
lent = replicate 1024 9

abbrev pub job : List ℕ → Case Job
job bytes =
    let o = meaning lent bytes in
    let out = ones 16384 in
    record {
      Promise = λ j. JobPromise bytes lent lent out j.number j.place j.count j.words j.scratch j.out;
      checks = [];
      number = λ j. j.number;
      right = record {
        number = job_number o;
        place = job_place o;
        count = length (job_text o lent);
        words = job_words o lent;
        scratch = job_scratch o lent;
        out = over (job_text o lent) out;
      };
      seen = true;
      only = λ t j p.
          let text = p.text_is ∙ ap (λ (n : ℕ). job_text o lent ++ drop n out) p.count_is in
          λ i. record { number = p.number_is i; place = p.place_is i; count = p.count_is i; words = p.words_are i; scratch = p.scratch_is i; out = text i };
    }

abbrev place_of_job : Job → List ℕ
place_of_job j = j.place ∷ []

abbrev job_count : Job → List ℕ
job_count j = j.count ∷ []

-- the first words, and the first 40 bytes
abbrev first_words : Job → List ℕ
first_words j = take 4 j.words

abbrev first_scratch : Job → List ℕ
first_scratch j = take 4 j.scratch

abbrev bytes : Job → List ℕ
bytes j = take 40 j.out

-- two rows of two words, 1 to 4, with the chain 2, and with swap 3; two words with the chain 2, and with the chain 0, which exchanges two axes of length 1
abbrev square : List ℕ
square = 1 ∷ 1 ∷ 2 ∷ 2 ∷ []

abbrev done : Case Job
done = job (sheet_text square (2 ∷ []) (1 ∷ 2 ∷ 3 ∷ 4 ∷ []))

abbrev refused : Case Job
refused = job (sheet_text square (3 ∷ []) (1 ∷ 2 ∷ 3 ∷ 4 ∷ []))

abbrev flat : Case Job
flat = job (sheet_text row (2 ∷ []) (1 ∷ 2 ∷ []))

abbrev thin : Case Job
thin = job (sheet_text row (0 ∷ []) (1 ∷ 2 ∷ []))

abbrev pub jobs : List (Row Job)
jobs =
    refuses "job/refuses-always" done
    ∷ wrong "job/right-sheet-refused" done bytes (over (refusal_text 1 0) (ones 40))
    -- the chain not run, its last swap left out, or the chain run twice
    ∷ wrong "job/chain-not-run" done first_words (1 ∷ 2 ∷ 3 ∷ 4 ∷ [])
    -- in the text the order number 0, the words before the chain, the lengths before it
    ∷ wrong "job/order-number-always-0" done bytes (over (result_text square 0 (1 ∷ 3 ∷ 2 ∷ 4 ∷ [])) (ones 40))
    ∷ wrong "job/words-before-the-chain" done bytes (over (result_text square 1 (1 ∷ 2 ∷ 3 ∷ 4 ∷ [])) (ones 40))
    ∷ wrong "job/written-with-the-old-lengths" flat bytes (over (result_text row 1 (1 ∷ 2 ∷ [])) (ones 40))
    -- the whole buffer passed on to the chain, which refuses it with 13; a word past the block changed
    ∷ wrong "job/whole-buffer-passed-on" flat bytes (over (refusal_text 13 0) (ones 40))
    ∷ wrong "job/tail-word-changed" flat first_words (1 ∷ 2 ∷ 0 ∷ 9 ∷ [])
    ∷ wrong "job/count-of-the-whole-buffer" done job_count (16384 ∷ [])
    ∷ wrong "job/later-byte-changed" done bytes (over (result_text square 1 (1 ∷ 3 ∷ 2 ∷ 4 ∷ []) ++ (0 ∷ [])) (ones 40))
    ∷ wrong "job/scratch-left" done first_scratch (9 ∷ 9 ∷ 9 ∷ 9 ∷ [])
    ∷ wrong "job/scratch-too-far" done first_scratch (0 ∷ 0 ∷ 0 ∷ 9 ∷ [])
    ∷ wrong "job/zeroed-by-the-longest-axis" thin first_scratch (0 ∷ 0 ∷ 9 ∷ 9 ∷ [])
    -- a sheet that is refused: its words stored, another place, the answer of a right one; and a right one answered like it
    ∷ wrong "job/stores-where-it-refuses" refused first_words (1 ∷ 2 ∷ 3 ∷ 4 ∷ [])
    ∷ wrong "job/another-place" refused bytes (over (refusal_text 6 1) (ones 40))
    ∷ wrong "job/another-place-answered" refused place_of_job (1 ∷ [])
    ∷ gives "job/refusal-not-answered" refused 0
    ∷ gives "job/right-sheet-answered-refused" done 6
    ∷ []

pub jobs_refuted : Refuted jobs
unfolding sheet_text result_by refusal_text rows_text row_count row_width volume line fields field decimal digits read_more read_number read_field read_fields closed read_line tabs shape_line chain_line row_lines ended meaning_by first_place at pick coords place_of places laid exchange follow named arrangements orders rank number_of swap_need chain_need
jobs_refuted = refuted jobs refl
