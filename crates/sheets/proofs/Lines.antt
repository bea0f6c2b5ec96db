-- A line is read exactly where its text stands: reading it gives vs and the rest exactly when the bytes are the line of vs
-- followed by the rest. Fields by induction on their count, each by the law of numbers.
use Rattle.lists.proofs.Kit.{◌≡◌, refl, sym, ap, ◌∙◌, Bool, true, false, List, [], ◌∷◌, ◌++◌, append_assoc, ◌↔◌, ⊎_elim, ℕ, zero, suc, ◌+◌, ◌/◌, ◌%◌, ◌<◌, ◌≤◌, arith, T, eqb, length, take, drop, take-append-drop, take-append_seam, drop-append_seam, lt-ltb, le-ltb, eqb-true, ne_eqb, same, same→eq, eq→same, decided, lt-or-ge}
use Rattle.sheets.specs.Print.{limit, tab_byte, line_feed, digits, decimal, field, fields, line}
use Rattle.sheets.specs.Read.{Reading, after, read_field, read_fields, closed, read_line, tabs}
use Rattle.sheets.proofs.Numbers.{Stops, number_text, text_number}
use Rattle.sheets.specs.Right.{SheetNumbers, Stands}
use Rattle.sheets.specs.Right.SheetNumbers.{none, more}

-- what was found by going on was found before, and gone on from
pub after_found : {A B : Type 0} (x : Reading A) (f : A → List ℕ → Reading B) {b : B} {rest : List ℕ} {C : Type 0}
    → after x f ≡ Reading.found b rest → ((a : A) (mid : List ℕ) → x ≡ Reading.found a mid → f a mid ≡ Reading.found b rest → C) → C
after_found Reading.none f {b} {rest} {C} e k = let n : ◌≡◌ {A = ℕ} 0 1 = cc in absurd (omega arith)
after_found (Reading.found a mid) f e k = k a mid refl e

pub field_text : (bs : List ℕ) {v : ℕ} {rest : List ℕ} → read_field bs ≡ Reading.found v rest → (bs ≡ field v ++ rest) × (v ≤ limit)
unfolding read_field field
field_text [] {v} {rest} e = let n : ◌≡◌ {A = ℕ} 0 1 = cc in absurd (omega arith)
field_text (b ∷ bs) {v} {rest} e =
    decided (eqb b tab_byte)
    (λ (t : eqb b tab_byte ≡ true).
    let h = number_text bs (rw t at e) in
    (rw (eqb-true b tab_byte t) (ap (λ (l : List ℕ). tab_byte ∷ l) h.0), h.1))
    (λ (t : eqb b tab_byte ≡ false).
    let z : Reading.none ≡ Reading.found v rest = rw t at e in
    let n : ◌≡◌ {A = ℕ} 0 1 = cc in
    absurd (omega arith))

pub text_field : (v : ℕ) {rest : List ℕ} → v ≤ limit → Stops rest → read_field (field v ++ rest) ≡ Reading.found v rest
unfolding read_field field
text_field v l s = text_number v l s

pub fields_text : (n : ℕ) (bs : List ℕ) {vs rest : List ℕ} → read_fields n bs ≡ Reading.found vs rest → Stands fields n bs vs rest
unfolding read_fields fields
fields_text zero bs {vs} {rest} e =
    let ev : [] ≡ vs = cc in
    let er : bs ≡ rest = cc in
    rw (← ev, er) (record { bytes = refl; long = refl; small = SheetNumbers.none })
fields_text (suc n) bs {vs} {rest} e =
    after_found (read_field bs) (λ (v : ℕ) (mid : List ℕ). after (read_fields n mid) (λ (ws : List ℕ) (end : List ℕ). Reading.found (v ∷ ws) end)) e
    (λ v mid e₁ e₂. after_found (read_fields n mid) (λ (ws : List ℕ) (end : List ℕ). Reading.found (v ∷ ws) end) e₂
    (λ ws end e₃ e₄.
    let ev : v ∷ ws ≡ vs = cc in
    let er : end ≡ rest = cc in
    let ih = fields_text n mid e₃ in
    let h = field_text bs e₁ in
    rw (← ev, ← er)
    (record {
      bytes = h.0 ∙ ap (λ (l : List ℕ). field v ++ l) ih.bytes ∙ sym (append_assoc (field v) (fields ws) end);
      long = ap suc ih.long;
      small = SheetNumbers.more h.1 ih.small;
    })))

-- what follows a number of a line begins with no digit
stops_fields : (vs : List ℕ) {rest : List ℕ} → Stops rest → Stops (fields vs ++ rest)
unfolding fields field
stops_fields [] s = s
stops_fields (v ∷ vs) s = Stops.at_byte refl

pub text_fields : {vs rest : List ℕ} → SheetNumbers vs → Stops rest → read_fields (length vs) (fields vs ++ rest) ≡ Reading.found vs rest
unfolding read_fields fields
text_fields {rest = rest} none s = refl
text_fields {rest = rest} (more {v} {vs} l m) s =
    rw (append_assoc (field v) (fields vs) rest, text_field v l (stops_fields vs s), text_fields m s)

pub closed_found : (vs mid : List ℕ) {us rest : List ℕ} → closed vs mid ≡ Reading.found us rest → (vs ≡ us) × (mid ≡ line_feed ∷ rest)
unfolding closed
closed_found vs [] {us} {rest} e = let n : ◌≡◌ {A = ℕ} 0 1 = cc in absurd (omega arith)
closed_found vs (b ∷ bs) {us} {rest} e =
    decided (eqb b line_feed)
    (λ (t : eqb b line_feed ≡ true).
    let f : Reading.found vs bs ≡ Reading.found us rest = rw t at e in
    let ev : vs ≡ us = cc in
    let er : bs ≡ rest = cc in
    (ev, rw (eqb-true b line_feed t, er)))
    (λ (t : eqb b line_feed ≡ false).
    let z : Reading.none ≡ Reading.found us rest = rw t at e in
    let n : ◌≡◌ {A = ℕ} 0 1 = cc in
    absurd (omega arith))

-- a line and what follows it, word first
pub line_then : (word vs rest : List ℕ) → line word vs ++ rest ≡ word ++ (fields vs ++ (line_feed ∷ rest))
unfolding line
line_then word vs rest =
    append_assoc word (fields vs ++ (line_feed ∷ [])) rest
    ∙ ap (λ (l : List ℕ). word ++ l) (append_assoc (fields vs) (line_feed ∷ []) rest)

pub T_true : (t : Bool) → t ≡ true → T t
T_true t e = rw e tt

true_T : (t : Bool) → T t → t ≡ true
true_T true h = refl
true_T false h = absurd h

pub line_text : (word : List ℕ) (n : ℕ) (bs : List ℕ) {vs rest : List ℕ} → read_line word n bs ≡ Reading.found vs rest → Stands (line word) n bs vs rest
unfolding read_line
line_text word n bs {vs} {rest} e =
    decided (same (take (length word) bs) word)
    (λ (t : same (take (length word) bs) word ≡ true).
    let front : take (length word) bs ≡ word = same→eq (take (length word) bs) word (T_true (same (take (length word) bs) word) t) in
    let e₁ : after (read_fields n (drop (length word) bs)) closed ≡ Reading.found vs rest = rw t at e in
    after_found (read_fields n (drop (length word) bs)) closed e₁
    (λ us mid e₂ e₃.
    let h = fields_text n (drop (length word) bs) e₂ in
    let c = closed_found us mid e₃ in
    rw (← c.0)
    (record {
      bytes =
          sym (take-append-drop (length word) bs)
          ∙ ap (λ (l : List ℕ). l ++ drop (length word) bs) front
          ∙ ap (λ (l : List ℕ). word ++ l) (h.bytes ∙ ap (λ (l : List ℕ). fields us ++ l) c.1)
          ∙ sym (line_then word us rest);
      long = h.long;
      small = h.small;
    })))
    (λ (t : same (take (length word) bs) word ≡ false).
    let z : Reading.none ≡ Reading.found vs rest = rw t at e in
    let n : ◌≡◌ {A = ℕ} 0 1 = cc in
    absurd (omega arith))

pub text_line : (word : List ℕ) {n : ℕ} {bs vs rest : List ℕ} → Stands (line word) n bs vs rest → read_line word n bs ≡ Reading.found vs rest
unfolding read_line closed
text_line word {n} {bs} {vs} {rest} h =
    rw (
      h.bytes ∙ line_then word vs rest,
      take-append_seam word (fields vs ++ (line_feed ∷ rest)),
      drop-append_seam word (fields vs ++ (line_feed ∷ rest)),
      true_T (same word word) (eq→same word word refl),
      ← h.long,
      text_fields {rest = line_feed ∷ rest} h.small (Stops.at_byte refl),
    )

-- a line reads as vs and the rest exactly when the bytes are the line of vs, of n small numbers, and the rest
pub line_exactly : (word : List ℕ) (n : ℕ) (bs vs rest : List ℕ) → (read_line word n bs ≡ Reading.found vs rest) ↔ Stands (line word) n bs vs rest
line_exactly word n bs vs rest = (line_text word n bs, text_line word)

tabs_byte : (d : ℕ) (bs : List ℕ) → tabs ((48 + d) ∷ bs) ≡ tabs bs
unfolding tabs
tabs_byte d bs = rw (ne_eqb (48 + d) line_feed (λ e. omega arith), ne_eqb (48 + d) tab_byte (λ e. omega arith))

-- no tab and no LF stands in a number
tabs-digits : (n v : ℕ) (bs : List ℕ) → tabs (digits n v ++ bs) ≡ tabs bs
unfolding digits tabs
tabs-digits zero v bs = refl
tabs-digits (suc n) v bs =
    ⊎_elim
    (λ (s : v < 10). rw (lt-ltb v 10 s) (tabs_byte v bs))
    (λ (g : 10 ≤ v).
    rw (le-ltb v 10 g)
    (ap tabs (append_assoc (digits n (v / 10)) ((48 + v % 10) ∷ []) bs)
    ∙ tabs-digits n (v / 10) ((48 + v % 10) ∷ bs)
    ∙ tabs_byte (v % 10) bs))
    (lt-or-ge v 10)

-- the tabs before a line's LF are its fields
pub tabs-fields : (vs rest : List ℕ) → tabs (fields vs ++ (line_feed ∷ rest)) ≡ length vs
unfolding tabs fields field decimal
tabs-fields [] rest = refl
tabs-fields (v ∷ vs) rest =
    ap suc (ap tabs (append_assoc (decimal v) (fields vs) (line_feed ∷ rest)) ∙ tabs-digits 10 v (fields vs ++ (line_feed ∷ rest)) ∙ tabs-fields vs rest)
