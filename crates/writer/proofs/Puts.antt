-- Texts put one behind the other: what is left to be put leads to the whole. From the law of runs of stores.
use Rattle.lists.proofs.Kit.{◌≡◌, refl, sym, ap, ◌∙◌, List, [], ◌∷◌, ◌++◌, append-nil, suc, take-suc, take_all, set, append_assoc, ℕ, ◌+◌, ◌<◌, ◌≤◌, arith, length, take, drop, drop-drop, sets-eq, get_or, length-append, drop_of_length-le, sets, length-sets, drop-next, take-append-drop}
use Rattle.sheets.specs.Print.{tab_byte, decimal, field, fields}
use Rattle.writer.specs.PrivateBytes.{Room, Put}
use Rattle.sheets.proofs.Stores.{sets-append}
use Rattle.std.proofs.Math.Seq.{take-suc-set}
use borrow.Rule.Slice.PartMut.{put_mid}

-- what is left, put at p, is the whole text, put at `at`, and the whole text has room
pub record Leads (out₀ : List ℕ) (at : ℕ) (text out : List ℕ) (p : ℕ) (left : List ℕ) : Type 0 where
  pub room : at + length text ≤ length out₀
  pub same : length out ≡ length out₀
  pub bytes : sets out p left ≡ sets out₀ at text
  pub place : p + length left ≡ at + length text

pub leads_start : {out : List ℕ} {at : ℕ} {text : List ℕ} → Room out at text → Leads out at text out at text
leads_start r = record { room = r.fits; same = refl; bytes = refl; place = refl }

pub leads_room : {out₀ : List ℕ} {at : ℕ} {text out : List ℕ} {p : ℕ} (t left : List ℕ) → Leads out₀ at text out p (t ++ left) → Room out p t
leads_room t left h = record { fits = omega (arith, length-append t left, h.place, h.room, h.same) }

pub leads_step : {out₀ : List ℕ} {at : ℕ} {text out : List ℕ} {p : ℕ} (t left : List ℕ) {next : ℕ} {out' : List ℕ}
    → Leads out₀ at text out p (t ++ left) → Put out p t next out' → Leads out₀ at text out' next left
leads_step {out = out} {p = p} t left h q =
    record {
      room = h.room;
      same = ap length q.bytes ∙ length-sets out p t ∙ h.same;
      bytes = rw (q.bytes, q.place) (sym (sets-append out p t left) ∙ h.bytes);
      place = omega (arith, q.place, length-append t left, h.place);
    }

pub leads_end : {out₀ : List ℕ} {at : ℕ} {text out : List ℕ} {p : ℕ} → Leads out₀ at text out p [] → Put out₀ at text p out
leads_end h = record { place = omega (arith, h.place); bytes = h.bytes }

-- another way to say what is left
pub leads_same : {out₀ : List ℕ} {at : ℕ} {text out : List ℕ} {p : ℕ} {left left' : List ℕ} → left ≡ left'
    → Leads out₀ at text out p left → Leads out₀ at text out p left'
leads_same e h = rw e at h

-- the field of the next number, then the others
pub fields-next : (vs : List ℕ) (i : ℕ) → i < length vs → fields (drop i vs) ≡ field (get_or vs i 0) ++ fields (drop (i + 1) vs)
unfolding fields
fields-next vs i h = rw (drop-next vs i h)

pub no_fields : (vs : List ℕ) (i : ℕ) → length vs ≤ i → fields (drop i vs) ≡ []
unfolding fields
no_fields vs i h = rw (drop_of_length-le vs {i = i} h)

-- the fields of a list, put one by one: those from entry i on lead to the whole text
module _ (vs : List ℕ) (i : ℕ) {out₀ : List ℕ} {at : ℕ} {text out : List ℕ} {p : ℕ} (h : Leads out₀ at text out p (fields (drop i vs))) where
  pub next_room : i < length vs → Room out p (field (get_or vs i 0))
  next_room k = leads_room (field (get_or vs i 0)) (fields (drop (i + 1) vs)) (leads_same (fields-next vs i k) h)

  pub next-put : i < length vs → {next : ℕ} {out' : List ℕ} → Put out p (field (get_or vs i 0)) next out'
      → Leads out₀ at text out' next (fields (drop (i + 1) vs))
  next-put k = leads_step (field (get_or vs i 0)) (fields (drop (i + 1) vs)) (leads_same (fields-next vs i k) h)

  pub all-put : length vs ≤ i → Put out₀ at text p out
  all-put k = leads_end (leads_same (no_fields vs i k) h)

-- a part that was overwritten
pub overwritten : (at k : ℕ) (out text : List ℕ) → k ≡ length text → at + length text ≤ length out → put_mid at k out text ≡ sets out at text
overwritten at k out text e h = rw (e, drop-drop (length text) at out) (sym (append_assoc (take at out) text (drop (at + length text) out)) ∙ sym (sets-eq text out at h))

-- a text that was written so that it ends at a place
pub ended_put : (start : ℕ) {out out' : List ℕ} {at end : ℕ} (text : List ℕ) → Room out at text → end ≡ at + length text → start + length text ≡ end
    → drop start out' ≡ text ++ drop end out → take start out' ≡ take start out → Put out at text end out'
ended_put start {out} {out'} {at} {end} text r e s written before =
    let same : start ≡ at = omega (arith, e, s) in
    record {
      place = e;
      bytes =
          sym (take-append-drop start out')
          ∙ ap (λ (l : List ℕ). l ++ drop start out') before
          ∙ ap (λ (l : List ℕ). take start out ++ l) written
          ∙ rw (same, e) (sym (append_assoc (take at out) text (drop (at + length text) out)) ∙ sym (sets-eq text out at r.fits));
    }

-- a field is its tab and its number
module _ {out : List ℕ} {at : ℕ} (v : ℕ) (r : Room out at (field v)) where
  whole_field : Leads out at (field v) out at ((tab_byte ∷ []) ++ (decimal v ++ []))
  unfolding field
  whole_field = leads_same (ap (λ (l : List ℕ). tab_byte ∷ l) (sym (append-nil (decimal v)))) (leads_start r)

  pub tab_room : Room out at (tab_byte ∷ [])
  tab_room = leads_room (tab_byte ∷ []) (decimal v ++ []) whole_field

  module _ {a : ℕ} {out₁ : List ℕ} (p : Put out at (tab_byte ∷ []) a out₁) where
    number_left : Leads out at (field v) out₁ a (decimal v ++ [])
    number_left = leads_step (tab_byte ∷ []) (decimal v ++ []) whole_field p

    pub number_room : Room out₁ a (decimal v)
    number_room = leads_room (decimal v) [] number_left

    pub field_put : {next : ℕ} {out₂ : List ℕ} → Put out₁ a (decimal v) next out₂ → Put out at (field v) next out₂
    field_put q = leads_end (leads_step (decimal v) [] number_left q)

pub put-length : {out : List ℕ} {at : ℕ} {text : List ℕ} {next : ℕ} {out' : List ℕ} → Put out at text next out' → length out' ≡ length out
put-length {out} {at} {text} q = ap length q.bytes ∙ length-sets out at text

-- a text of three parts is put part by part
module _ {out : List ℕ} {at : ℕ} {text : List ℕ} (s t u : List ℕ) (parts : text ≡ s ++ (t ++ u)) (r : Room out at text) where
  whole : Leads out at text out at (s ++ (t ++ u))
  whole = leads_same parts (leads_start r)

  pub first_room : Room out at s
  first_room = leads_room s (t ++ u) whole

  pub second_room : {a : ℕ} {out₁ : List ℕ} → Put out at s a out₁ → Room out₁ a t
  second_room p = leads_room t u (leads_step s (t ++ u) whole p)

  third : {a b : ℕ} {out₁ out₂ : List ℕ} → Put out at s a out₁ → Put out₁ a t b out₂ → Leads out at text out₂ b (u ++ [])
  third p q = leads_same (sym (append-nil u)) (leads_step t u (leads_step s (t ++ u) whole p) q)

  pub third_room : {a b : ℕ} {out₁ out₂ : List ℕ} → Put out at s a out₁ → Put out₁ a t b out₂ → Room out₂ b u
  third_room p q = leads_room u [] (third p q)

  pub three_put : {a b next : ℕ} {out₁ out₂ out₃ : List ℕ} → Put out at s a out₁ → Put out₁ a t b out₂ → Put out₂ b u next out₃
      → Put out at text next out₃
  three_put p q e = leads_end (leads_step u [] (third p q) e)

-- bytes overwritten from the front by those of a text
pub one_byte_more : (i : ℕ) (place text : List ℕ) → i < length place → i < length text → take i place ≡ take i text
    → take (i + 1) (set place i (get_or text i 0)) ≡ take (i + 1) text
one_byte_more i place text h k e =
    let next : i + 1 ≡ suc i = omega arith in
    rw next (take-suc-set place i (get_or text i 0) h ∙ ap (λ (l : List ℕ). l ++ (get_or text i 0 ∷ [])) e ∙ sym (take-suc text i 0 k))

pub whole_text : (i : ℕ) (place text : List ℕ) → length place ≤ i → length text ≤ i → take i place ≡ take i text → place ≡ text
whole_text i place text h k e = sym (take_all i place h) ∙ e ∙ take_all i text k
