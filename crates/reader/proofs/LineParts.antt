-- A line at the head of the bytes, by what the library's `strip_prefix` says of its word and of its LF. From the definitions.
use Rattle.lists.proofs.Kit.{◌≡◌, refl, ap, ◌∙◌, sym, Bool, true, false, eqb, ◌&&◌, List, [], ◌∷◌, ℕ, ◌+◌, length, take, drop, same, decided}
use Rattle.std.specs.Prelude.{Option, Some, None, MatchOption}
use Rattle.std.specs.Borrow.{Bor}
use Rattle.std.specs.Cmp.Lexicographic.{pointwise}
use Rattle.sheets.specs.Print.{line_feed}
use Rattle.sheets.specs.Read.{Reading, after, read_fields, closed, read_line}
use Rattle.reader.specs.Private.{numbers_of, ReadInto}
use Rattle.reader.proofs.Runs.{got}

pointwise_same : (xs ys : List ℕ) → pointwise eqb xs ys ≡ same xs ys
pointwise_same [] [] = refl
pointwise_same [] (y ∷ ys) = refl
pointwise_same (x ∷ xs) [] = refl
pointwise_same (x ∷ xs) (y ∷ ys) = ap (λ t. eqb x y && t) (pointwise_same xs ys)

feed_only : (b : ℕ) {t : Bool} → (eqb b line_feed && true) ≡ t → eqb b line_feed ≡ t
feed_only b e = decided (eqb b line_feed) (λ t. rw t (rw t at e)) (λ f. rw f (rw f at e))

no_feed : (vs bytes : List ℕ) → pointwise eqb (take 1 bytes) (line_feed ∷ []) ≡ false → closed vs bytes ≡ Reading.none
unfolding closed
no_feed vs [] e = refl
no_feed vs (b ∷ bs) e = rw (feed_only b e)

feed : (vs bytes : List ℕ) → pointwise eqb (take 1 bytes) (line_feed ∷ []) ≡ true → closed vs bytes ≡ Reading.found vs (drop 1 bytes)
unfolding closed
feed vs [] e = cc
feed vs (b ∷ bs) e = rw (feed_only b e)

module _ (bytes word : List ℕ) (n : ℕ) where
  pub no_word : (out out' : List ℕ) → length out' ≡ length out → pointwise eqb (take (length word) bytes) word ≡ false → ReadInto (read_line word n bytes) None out out'
  unfolding read_line
  no_word out out' k e = (rw (sym (pointwise_same (take (length word) bytes) word) ∙ e), k)

  module _ {fields : List ℕ} (stands : pointwise eqb (take (length word) bytes) word ≡ true) (is : fields ≡ drop (length word) bytes) where
    pub past_word : read_line word n bytes ≡ after (read_fields n fields) closed
    unfolding read_line
    past_word = rw (sym (pointwise_same (take (length word) bytes) word) ∙ stands, is)

    pub no_fields : (out out' : List ℕ) → ReadInto (read_fields n fields) None out out' → ReadInto (read_line word n bytes) None out out'
    no_fields out out' h = (past_word ∙ rw h.0, h.1)

    -- where the fields were read, the bytes that follow them begin with an LF, or do not
    pub line_end : (rest : Bor (List ℕ)) (out out' : List ℕ) → ReadInto (read_fields n fields) (Some rest) out out' → (r : Option (Bor (List ℕ)))
        → MatchOption r (pointwise eqb (take 1 rest.now) (line_feed ∷ []) ≡ false)
        (λ x. (pointwise eqb (take 1 rest.now) (line_feed ∷ []) ≡ true) × (x.now ≡ drop 1 rest.now) × (length x.now + 1 ≡ length rest.now))
        → ReadInto (read_line word n bytes) r out out'
    line_end rest out out' h None e =
        (past_word ∙ ap (λ (x : Reading (List ℕ)). after x closed) h.0 ∙ no_feed (numbers_of (read_fields n fields)) rest.now e, h.1)
    line_end rest out out' h (Some end) e =
        let us = numbers_of (read_fields n fields) in
        let found : read_line word n bytes ≡ Reading.found us end.now =
        past_word ∙ ap (λ (x : Reading (List ℕ)). after x closed) h.0 ∙ feed us rest.now e.0 ∙ ap (Reading.found us) (sym e.1) in
        (got found, h.1, rw found h.2)
