-- Exactly when a sheet is refused, with which number and at which place, for both readers: one constructor a number, with its condition and with what
-- every step before it in the reading order let through. Each step of the meaning by cases, one way and back; the rows by induction on their count.
use Rattle.lists.proofs.Kit.{◌≡◌, refl, sym, ap, ◌∙◌, Bool, true, false, cond, ◌||◌, List, [], ◌∷◌, ◌++◌, ◌↔◌, ◌⊎◌, inl, inr, ⊎_elim, ℕ, zero, suc, ◌<◌, arith, eqb, length, get_or, ltb-true, ltb-false, lt-ltb, le-ltb, eqb-true, eqb-false}
use Rattle.layout.specs.Layout.{volume}
use Rattle.refusals.specs.Conditions.{some, bad_length, short_buffer, long_chain, no_swap, bad_swap, no_order, no_release, first_place}
use Rattle.sheets.specs.Print.{line}
use Rattle.sheets.specs.Read.{Reading, read_line, tabs}
use Rattle.sheets.specs.Sheet.{shape_word, chain_word, order_word, row_word, row_count, row_width}
use Rattle.sheets.specs.Meaning.{Verdict, Outcome, long_sheet, big_sheet, refuse_if, on_line, onward, behind, conclude, ended, shape_line, chain_line, line_order, wrong_release, order_line, row_lines, meaning_by, meaning, result_meaning}
use Rattle.sheets.specs.Right.{Stands, ShapeRead}
use Rattle.sheets.proofs.Lines.{line_text, text_line}
use Rattle.sheets.proofs.Accepted.{shape_read, read_shape, Second}
use Rattle.sheets.proofs.SecondLines.{chain_second, order_second, chain_tabs, order_tabs}
use Rattle.sheets.specs.Refused.{NoLine, ShapeFault, ChainFault, OrderFault, RowFaultAt, RefusedBy, Refused, RefusedResult}

-- nothing read is no line
no_line : (word : List ℕ) (n : ℕ) (bytes : List ℕ) → read_line word n bytes ≡ Reading.none → NoLine word n bytes
no_line word n bytes e vs rest s =
    let f : Reading.none ≡ Reading.found vs rest = sym e ∙ text_line word s in
    let z : ◌≡◌ {A = ℕ} 0 1 = cc in
    omega arith

line_none : (word : List ℕ) (n : ℕ) (bytes : List ℕ) → NoLine word n bytes → read_line word n bytes ≡ Reading.none
line_none word n bytes none = by (read_line word n bytes) refl
  where
    by : (x : Reading (List ℕ)) → read_line word n bytes ≡ x → x ≡ Reading.none
    by Reading.none e = refl
    by (Reading.found vs rest) e = absurd (none vs rest (line_text word n bytes e))

-- what a refusal says, once it is known to be another
as_given : (C : ℕ → ℕ → Type 0) {k p number place : ℕ} → Verdict.refuse k p ≡ Verdict.refuse number place → C k p → C number place
as_given C {k} {p} {number} {place} e c = let a : k ≡ number = cc in let b : p ≡ place = cc in rw (← a, ← b) c

no_refusal : {vs rest : List ℕ} {number place : ℕ} {A : Type 0} → Verdict.go vs rest ≡ Verdict.refuse number place → A
no_refusal {vs} {rest} {number} {place} e = let z : ◌≡◌ {A = ℕ} 0 1 = cc in absurd (omega arith)

module _ (C : ℕ → ℕ → Type 0) {number place : ℕ} where
  -- a step that refuses: its condition holds, or it goes on and a later step refuses
  stepped : (t : Bool) (k p : ℕ) (next : Verdict) → (t ≡ true → C k p) → (t ≡ false → next ≡ Verdict.refuse number place → C number place)
      → refuse_if t k p next ≡ Verdict.refuse number place → C number place
  stepped true k p next c f e = as_given C e (c refl)
  stepped false k p next c f e = f refl e

  lined : (word : List ℕ) (n k : ℕ) (bytes : List ℕ) (next : List ℕ → List ℕ → Verdict) → (NoLine word n bytes → C 10 k)
      → ((vs rest : List ℕ) → Stands (line word) n bytes vs rest → next vs rest ≡ Verdict.refuse number place → C number place)
      → onward (on_line k (read_line word n bytes)) next ≡ Verdict.refuse number place → C number place
  lined word n k bytes next c f = by (read_line word n bytes) refl
    where
      by : (x : Reading (List ℕ)) → read_line word n bytes ≡ x → onward (on_line k x) next ≡ Verdict.refuse number place → C number place
      by Reading.none q e = as_given C e (c (no_line word n bytes q))
      by (Reading.found vs rest) q e = f vs rest (line_text word n bytes q) e

module _ (buffer bytes : List ℕ) where
  shape_fault : {number place : ℕ} → shape_line buffer bytes ≡ Verdict.refuse number place → ShapeFault buffer bytes number place
  unfolding shape_line
  shape_fault =
      stepped (ShapeFault buffer bytes) (long_sheet bytes) 9 0 _ (λ t. ShapeFault.nine (ltb-true 16384 (length bytes) t))
      (λ t. let few = ltb-false 16384 (length bytes) t in
      lined (ShapeFault buffer bytes) shape_word 4 1 bytes _ (ShapeFault.ten few)
      (λ ds rest s. stepped (ShapeFault buffer bytes) (bad_length ds) 1 0 _ (ShapeFault.one few s)
      (λ u. stepped (ShapeFault buffer bytes) (big_sheet ds) 11 0 _ (λ v. ShapeFault.eleven few s u (ltb-true 1024 (volume ds) v))
      (λ v. stepped (ShapeFault buffer bytes) (short_buffer ds buffer) 3 0 _ (λ w. ShapeFault.three few s u (ltb-false 1024 (volume ds) v) (ltb-true (length buffer) (volume ds) w))
      (λ w. no_refusal)))))

  fault_shape : {number place : ℕ} → ShapeFault buffer bytes number place → shape_line buffer bytes ≡ Verdict.refuse number place
  unfolding shape_line
  fault_shape (ShapeFault.nine h) = rw (lt-ltb 16384 (length bytes) h)
  fault_shape (ShapeFault.ten h n) = rw (le-ltb 16384 (length bytes) h, line_none shape_word 4 bytes n)
  fault_shape (ShapeFault.one h s u) = rw (le-ltb 16384 (length bytes) h, text_line shape_word s, u)
  fault_shape (ShapeFault.eleven {ds} h s u v) = rw (le-ltb 16384 (length bytes) h, text_line shape_word s, u, lt-ltb 1024 (volume ds) v)
  fault_shape (ShapeFault.three {ds} h s u v w) =
      rw (le-ltb 16384 (length bytes) h, text_line shape_word s, u, le-ltb 1024 (volume ds) v, lt-ltb (length buffer) (volume ds) w)

-- the test holds at this place, and at none before it
abbrev FirstAt : (ℕ → Bool) → List ℕ → ℕ → Type 0
FirstAt f l place = (place < length l) × (f (get_or l place 0) ≡ true) × ((k : ℕ) → k < place → f (get_or l k 0) ≡ false)

first_found : (f : ℕ → Bool) (l : List ℕ) → some f l ≡ true → FirstAt f l (first_place f l)
unfolding first_place
first_found f [] e = let z : ◌≡◌ {A = ℕ} 0 1 = cc in absurd (omega arith)
first_found f (x ∷ l) e = by (f x) refl e (first_found f l)
  where
    earlier : f x ≡ false → {p : ℕ} → FirstAt f l p → (k : ℕ) → k < suc p → f (get_or (x ∷ l) k 0) ≡ false
    earlier q h zero d = q
    earlier q h (suc k) d = h.2 k (omega arith)

    by : (t : Bool) → f x ≡ t → (t || some f l) ≡ true → (some f l ≡ true → FirstAt f l (first_place f l)) → FirstAt f (x ∷ l) (cond t 0 (suc (first_place f l)))
    by true q u rec = (omega arith, q, λ k h. absurd (omega arith))
    by false q u rec = let h = rec u in (omega (arith, h.0), h.1, earlier q h)

found_first : (f : ℕ → Bool) (l : List ℕ) (place : ℕ) → FirstAt f l place → (some f l ≡ true) × (first_place f l ≡ place)
unfolding first_place
found_first f [] place h = absurd (omega (arith, h.0))
found_first f (x ∷ l) zero h = rw h.1 (refl, refl)
found_first f (x ∷ l) (suc place) h =
    let (u, w) = found_first f l place (omega (arith, h.0), h.1, λ k d. h.2 (suc k) (omega arith)) in
    rw (h.2 0 (omega arith)) (u, ap suc w)

module _ (bytes : List ℕ) where
  -- the numbers of a chain line are as many as its tabs
  by_tabs : {n : ℕ} {chain rest : List ℕ} → Stands (line chain_word) n bytes chain rest → Stands (line chain_word) (tabs bytes) bytes chain rest
  by_tabs {n} {chain} {rest} s = record { bytes = s.bytes; long = chain_tabs chain rest ∙ ap tabs (sym s.bytes); small = s.small }

  chain_fault : {number place : ℕ} → chain_line bytes ≡ Verdict.refuse number place → ChainFault bytes number place
  unfolding chain_line
  chain_fault =
      lined (ChainFault bytes) chain_word (tabs bytes) 2 bytes _ (λ d. ChainFault.ten (λ n chain rest s. d chain rest (by_tabs s)))
      (λ chain rest s. stepped (ChainFault bytes) (long_chain chain) 5 0 _ (λ t. ChainFault.five s (ltb-true 32 (length chain) t))
      (λ t. stepped (ChainFault bytes) (bad_swap 4 chain) 6 (first_place (no_swap 4) chain) _
      (λ u.
      let (h, e, n) = first_found (no_swap 4) chain u in
      ChainFault.six s (ltb-false 32 (length chain) t) h (ltb-true 2 (get_or chain (first_place (no_swap 4) chain) 0) e) (λ k d. ltb-false 2 (get_or chain k 0) (n k d)))
      (λ u. no_refusal)))

  fault_chain : {number place : ℕ} → ChainFault bytes number place → chain_line bytes ≡ Verdict.refuse number place
  unfolding chain_line
  fault_chain (ChainFault.ten d) = rw (line_none chain_word (tabs bytes) bytes (d (tabs bytes)))
  fault_chain (ChainFault.five {chain = chain} s t) = rw (text_line chain_word (by_tabs s), lt-ltb 32 (length chain) t)
  fault_chain (ChainFault.six {place = place} {chain = chain} s t h e n) =
      let (u, w) = found_first (no_swap 4) chain place (h, lt-ltb 2 (get_or chain place 0) e, λ k d. le-ltb 2 (get_or chain k 0) (n k d)) in
      rw (text_line chain_word (by_tabs s), le-ltb 32 (length chain) t, u, w)

  -- an order line of two numbers has two tabs, one of one number has not
  two_tabs : {n : ℕ} {ns rest : List ℕ} → Stands (line order_word) n bytes ns rest → tabs bytes ≡ n
  two_tabs {n} {ns} {rest} s = ap tabs s.bytes ∙ sym (order_tabs ns rest) ∙ s.long

  -- what the numbers of the line say
  numbers_fault : (n : ℕ) (ns : List ℕ) {rest : List ℕ} {number place : ℕ} → (n ≡ 1) ⊎ (n ≡ 2) → Stands (line order_word) n bytes ns rest
      → refuse_if (wrong_release ns) 14 0 (refuse_if (no_order 4 (line_order ns)) 7 0 (Verdict.go ns rest)) ≡ Verdict.refuse number place
      → OrderFault bytes number place
  numbers_fault n [] c s e = ⊎_elim (λ (q : n ≡ 1). absurd (omega (arith, s.long))) (λ (q : n ≡ 2). absurd (omega (arith, s.long))) c
  numbers_fault n (k ∷ []) c s e =
      let one : Stands (line order_word) 1 bytes (k ∷ []) _ = record { bytes = s.bytes; long = refl; small = s.small } in
      stepped (OrderFault bytes) (no_order 4 k) 7 0 _ (λ u. OrderFault.seven one (ltb-true 23 k u)) (λ u. no_refusal) e
  numbers_fault n (release ∷ k ∷ []) c s e =
      let two : Stands (line order_word) 2 bytes (release ∷ k ∷ []) _ = record { bytes = s.bytes; long = refl; small = s.small } in
      stepped (OrderFault bytes) (no_release release) 14 0 _ (OrderFault.fourteen two)
      (λ t. stepped (OrderFault bytes) (no_order 4 k) 7 0 _ (λ u. OrderFault.seven_by two t (ltb-true 23 k u)) (λ u. no_refusal)) e
  numbers_fault n (a ∷ b ∷ c ∷ ns) o s e = ⊎_elim (λ (q : n ≡ 1). absurd (omega (arith, s.long))) (λ (q : n ≡ 2). absurd (omega (arith, s.long))) o

  order_fault : {number place : ℕ} → order_line bytes ≡ Verdict.refuse number place → OrderFault bytes number place
  unfolding order_line
  order_fault {number} {place} = by (eqb (tabs bytes) 2) refl
    where
      by : (t : Bool) → eqb (tabs bytes) 2 ≡ t
          → onward (on_line 2 (read_line order_word (cond t 2 1) bytes))
          (λ (ns : List ℕ) (rest : List ℕ). refuse_if (wrong_release ns) 14 0 (refuse_if (no_order 4 (line_order ns)) 7 0 (Verdict.go ns rest)))
          ≡ Verdict.refuse number place → OrderFault bytes number place
      by true q =
          lined (OrderFault bytes) order_word 2 2 bytes _ (OrderFault.ten (λ ns rest s. omega (arith, eqb-true (tabs bytes) 2 q, two_tabs s)))
          (λ ns rest s. numbers_fault 2 ns (inr refl) s)
      by false q =
          lined (OrderFault bytes) order_word 1 2 bytes _ (λ d. OrderFault.ten d (λ ns rest s. eqb-false (tabs bytes) 2 q (two_tabs s)))
          (λ ns rest s. numbers_fault 1 ns (inl refl) s)

  none_either : NoLine order_word 1 bytes → NoLine order_word 2 bytes → (t : Bool) → read_line order_word (cond t 2 1) bytes ≡ Reading.none
  none_either a b true = line_none order_word 2 bytes b
  none_either a b false = line_none order_word 1 bytes a

  fault_order : {number place : ℕ} → OrderFault bytes number place → order_line bytes ≡ Verdict.refuse number place
  unfolding order_line
  fault_order (OrderFault.ten a b) = rw (none_either a b (eqb (tabs bytes) 2))
  fault_order (OrderFault.fourteen s t) = rw (two_tabs s, text_line order_word s, t)
  fault_order (OrderFault.seven {k} s t) = rw (two_tabs s, text_line order_word s, lt-ltb 23 k t)
  fault_order (OrderFault.seven_by {k = k} s t u) = rw (two_tabs s, text_line order_word s, t, lt-ltb 23 k u)

-- rows
behind-refused : (ws : List ℕ) (v : Verdict) {number place : ℕ} → behind ws v ≡ Verdict.refuse number place → v ≡ Verdict.refuse number place
behind-refused ws (Verdict.refuse k p) e = e
behind-refused ws (Verdict.go us mid) e = no_refusal e

row_fault : (n k count : ℕ) (bytes : List ℕ) {number place : ℕ} → row_lines k count n bytes ≡ Verdict.refuse number place
    → (number ≡ 10) × RowFaultAt n k count bytes place
unfolding row_lines ended
row_fault n k zero [] e = no_refusal e
row_fault n k zero (b ∷ bytes) e =
    as_given (λ (number : ℕ) (place : ℕ). (number ≡ 10) × RowFaultAt n k zero (b ∷ bytes) place) e
    (refl, RowFaultAt.left_over (λ (q : b ∷ bytes ≡ []). let z : ◌≡◌ {A = ℕ} 0 1 = cc in omega arith))
row_fault n k (suc count) bytes e =
    lined (λ (number : ℕ) (place : ℕ). (number ≡ 10) × RowFaultAt n k (suc count) bytes place) row_word n k bytes _ (λ d. (refl, RowFaultAt.no_row d))
    (λ ws rest s f. let ih = row_fault n (suc k) count rest (behind-refused ws (row_lines (suc k) count n rest) f) in (ih.0, RowFaultAt.later s ih.1)) e

not_ended : (k : ℕ) (bytes : List ℕ) → (bytes ≡ [] → ⊥) → ended k bytes ≡ Verdict.refuse 10 k
unfolding ended
not_ended k [] h = absurd (h refl)
not_ended k (b ∷ bytes) h = refl

fault_row : {n k count : ℕ} {bytes : List ℕ} {place : ℕ} → RowFaultAt n k count bytes place → row_lines k count n bytes ≡ Verdict.refuse 10 place
unfolding row_lines
fault_row {n} (RowFaultAt.no_row {bytes = bytes} d) = rw (line_none row_word n bytes d)
fault_row (RowFaultAt.left_over {k} {bytes} h) = not_ended k bytes h
fault_row (RowFaultAt.later s f) = rw (text_line row_word s, fault_row f)

-- an outcome that refuses: the verdict does, or it goes on and what is made of it refuses
concluded : (v : Verdict) (f : List ℕ → List ℕ → Outcome) {number place : ℕ} {A : Type 0} → (v ≡ Verdict.refuse number place → A)
    → ((us mid : List ℕ) → v ≡ Verdict.go us mid → f us mid ≡ Outcome.refused number place → A) → conclude v f ≡ Outcome.refused number place → A
concluded (Verdict.refuse k p) f {number} {place} r g e = let a : k ≡ number = cc in let b : p ≡ place = cc in r (rw (a, b))
concluded (Verdict.go us mid) f r g e = g us mid refl e

module _ {second : List ℕ → Verdict} {print : List ℕ → List ℕ} {Good : List ℕ → Type 0} {Fault : List ℕ → ℕ → ℕ → Type 0} (law : Second second print Good)
    (stops : (bytes : List ℕ) (number place : ℕ) → (second bytes ≡ Verdict.refuse number place) ↔ Fault bytes number place) (buffer bytes : List ℕ) where
  there : {number place : ℕ} → meaning_by second buffer bytes ≡ Outcome.refused number place → RefusedBy print Good Fault buffer bytes number place
  unfolding meaning_by
  there {number} {place} =
      concluded (shape_line buffer bytes) _ (λ e. RefusedBy.line_1 (shape_fault buffer bytes e))
      (λ ds rest e. concluded (second rest) _ (λ f. RefusedBy.line_2 (shape_read buffer bytes e) ((stops rest number place).0 f))
      (λ ns mid f. concluded (row_lines 3 (row_count ds) (row_width ds) mid) _
      (λ g.
      let s : ShapeRead buffer bytes ds (print ns ++ mid) = rw (law.stands rest f).0 at (shape_read buffer bytes e) in
      let w = row_fault (row_width ds) 3 (row_count ds) mid g in
      rw w.0 (RefusedBy.row s (law.stands rest f).1 w.1))
      (λ words end g h. let z : ◌≡◌ {A = ℕ} 0 1 = cc in absurd (omega arith))))

  back : {number place : ℕ} → RefusedBy print Good Fault buffer bytes number place → meaning_by second buffer bytes ≡ Outcome.refused number place
  unfolding meaning_by
  back (RefusedBy.line_1 f) = rw (fault_shape buffer bytes f)
  back (RefusedBy.line_2 {number} {place} {rest = rest} s f) = rw (read_shape s, (stops rest number place).1 f)
  back (RefusedBy.row {ns = ns} {mid = mid} s g f) = rw (read_shape s, law.reads ns mid g, fault_row f)

  -- whatever the second line is, if its laws are known
  pub refused_exactly_by : (number place : ℕ) → (meaning_by second buffer bytes ≡ Outcome.refused number place) ↔ RefusedBy print Good Fault buffer bytes number place
  refused_exactly_by number place = (there, back)

pub refused_exactly : (buffer bytes : List ℕ) (number place : ℕ) → (meaning buffer bytes ≡ Outcome.refused number place) ↔ Refused buffer bytes number place
refused_exactly = refused_exactly_by chain_second (λ bytes number place. (chain_fault bytes, fault_chain bytes))

pub refused_result_exactly : (buffer bytes : List ℕ) (number place : ℕ) → (result_meaning buffer bytes ≡ Outcome.refused number place) ↔ RefusedResult buffer bytes number place
refused_result_exactly = refused_exactly_by order_second (λ bytes number place. (order_fault bytes, fault_order bytes))
