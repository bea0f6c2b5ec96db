-- The stages of lines, uncut: every line has moved, one after the other, and scratch is cleared.
use Rattle.lists.proofs.Kit.{◌≡◌, refl, sym, ap, ap₂, ◌∙◌, subst, List, ◌++◌, ℕ, zero, suc, ◌+◌, ◌*◌, ◌/◌, ◌%◌, ◌<◌, ◌≤◌, arith, digits_div, digits_mod, length, get_or, drop, replicate, drop-set-lt, tab_zero}
use Rattle.stages.specs.Stages.{Memory, Store, with_buffer, with_scratch, put, after, stage, finish}
use Rattle.stages.specs.Stages.Store.{to_progress}
use Rattle.stages.specs.Lines.{Lines, lifting, returning, stages_of}
use Rattle.stages.proofs.Calls.{after-stage, remaining_none, finish-stage}
use Rattle.stages.proofs.Lines.{words_lift, words_return, words_clear}
use Rattle.stages.proofs.Filled.{filled, into_scratch_lem, into_buffer_lem, length_filled, filled_front, filled_at, filled_others}

-- the lines lie in the buffer, the places of each apart, and scratch has room
pub record Fit (l : Lines) (buffer scratch : List ℕ) : Type 0 where
  pub inside : (t k : ℕ) → t < l.lines → k < l.count t → l.pos t k < length buffer
  pub apart : (t j k : ℕ) → t < l.lines → j < l.count t → k < l.count t → l.pos t j ≡ l.pos t k → j ≡ k
  pub short : (t : ℕ) → t < l.lines → l.count t ≤ l.need
  pub room : l.need ≤ length scratch

-- line t has moved: each of its places holds the word of the place that it comes from, every other word stands
pub record LineMoved (l : Lines) (t : ℕ) (xs ys : List ℕ) : Type 0 where
  pub same : length ys ≡ length xs
  pub placed : (k : ℕ) → k < l.count t → get_or ys (l.pos t k) 0 ≡ get_or xs (l.pos t (l.src t k)) 0
  pub others : (p : ℕ) → ((k : ℕ) → k < l.count t → l.pos t k ≡ p → ⊥) → get_or ys p 0 ≡ get_or xs p 0

-- stores below place n leave what lies past it
past_filled : (n c : ℕ) (v : ℕ → ℕ) (xs : List ℕ) → c ≤ n → drop n (filled c (λ k. k) v xs) ≡ drop n xs
past_filled n zero v xs h = refl
past_filled n (suc c) v xs h = let k : c ≤ n = omega arith in drop-set-lt n (filled c (λ k. k) v xs) c (v c) h ∙ past_filled n c v xs k

-- stage 2t + r belongs to line t
halved : (p t r : ℕ) → r < 2 → p ≡ t * 2 + r → (p / 2 ≡ t) × (p % 2 ≡ r)
halved p t r h e = rw e (digits_div t h, digits_mod t h)

module _ (l : Lines) where
  -- scratch with line t of xs, and the buffer once it is returned
  abbrev pub lifted : ℕ → List ℕ → List ℕ → List ℕ
  lifted t xs sc = filled (l.count t) (λ k. k) (λ k. get_or xs (l.pos t (l.src t k)) 0) sc

  abbrev pub returned : ℕ → List ℕ → List ℕ → List ℕ
  returned t sc xs = filled (l.count t) (l.pos t) (λ k. get_or sc k 0) xs

  -- the memory after each stage
  pub stage_lift : (t : ℕ) (m : Memory) → t < l.lines → m.progress ≡ t * 2
      → after (stage (stages_of l) m) m ≡ put (to_progress (suc m.progress)) (with_scratch m (lifted t m.buffer m.scratch))
  stage_lift t m h e =
      let q = halved m.progress t 0 (omega arith) (omega arith) in
      after-stage (stages_of l) m
      ∙ ap (λ (ss : List Store). put (to_progress (suc m.progress)) (after ss m)) (words_lift l m.progress m (omega arith) q.1 ∙ ap (λ (u : ℕ). lifting l u m) q.0)
      ∙ ap (put (to_progress (suc m.progress))) (into_scratch_lem (l.count t) (λ k. k) (λ k. get_or m.buffer (l.pos t (l.src t k)) 0) m)

  pub stage_return : (t : ℕ) (m : Memory) → t < l.lines → m.progress ≡ t * 2 + 1
      → after (stage (stages_of l) m) m ≡ put (to_progress (suc m.progress)) (with_buffer m (returned t m.scratch m.buffer))
  stage_return t m h e =
      let q = halved m.progress t 1 (omega arith) e in
      after-stage (stages_of l) m
      ∙ ap (λ (ss : List Store). put (to_progress (suc m.progress)) (after ss m)) (words_return l m.progress m (omega arith) (λ z. omega (arith, q.1)) ∙ ap (λ (u : ℕ). returning l u m) q.0)
      ∙ ap (put (to_progress (suc m.progress))) (into_buffer_lem (l.count t) (l.pos t) (λ k. get_or m.scratch k 0) m)

  pub stage_clear : (m : Memory) → m.progress ≡ l.lines * 2
      → after (stage (stages_of l) m) m ≡ put (to_progress (suc m.progress)) (with_scratch m (filled l.need (λ k. k) (λ k. 0) m.scratch))
  stage_clear m e =
      after-stage (stages_of l) m
      ∙ ap (λ (ss : List Store). put (to_progress (suc m.progress)) (after ss m)) (words_clear l m.progress m (omega arith))
      ∙ ap (put (to_progress (suc m.progress))) (into_scratch_lem l.need (λ k. k) (λ k. 0) m)

module _ {l : Lines} {b₀ sc₀ : List ℕ} (fit : Fit l b₀ sc₀) where
  -- a line that is lifted and returned has moved
  pub line_moved : (t : ℕ) (xs sc : List ℕ) → t < l.lines → length xs ≡ length b₀ → length sc ≡ length sc₀
      → LineMoved l t xs (returned l t (lifted l t xs sc) xs)
  line_moved t xs sc h e d =
      let v : ℕ → ℕ = λ k. get_or xs (l.pos t (l.src t k)) 0 in
      record {
        same = length_filled (l.count t) (l.pos t) (λ k. get_or (lifted l t xs sc) k 0) xs;
        placed = λ k a.
            filled_at (l.pos t) (λ j. get_or (lifted l t xs sc) j 0) xs (l.count t) k (λ i j. fit.apart t i j h) (λ i b. rw e (fit.inside t i h b)) a
            ∙ filled_at (λ j. j) v sc (l.count t) k (λ i j _ _ q. q) (λ i b. omega (arith, fit.short t h, fit.room)) a;
        others = filled_others (l.pos t) (λ j. get_or (lifted l t xs sc) j 0) xs (l.count t);
      }

  -- on the way, at the start of line t
  record Going (t : ℕ) (x : Memory) : Type 0 where
    at : x.progress ≡ t * 2
    same : length x.buffer ≡ length b₀
    same' : length x.scratch ≡ length sc₀
    past : drop l.need x.scratch ≡ drop l.need sc₀

  module _ (P : ℕ → List ℕ → Type 0) (step : (t : ℕ) (xs ys : List ℕ) → t < l.lines → P t xs → LineMoved l t xs ys → P (suc t) ys) where
    -- what holds at the end
    pub record End (x : Memory) : Type 0 where
      pub moved : P l.lines x.buffer
      pub cleared : x.scratch ≡ replicate l.need 0 ++ drop l.need sc₀
      pub counted : x.progress ≡ l.lines * 2 + 1

    going : (n t : ℕ) (x : Memory) → t + n ≡ l.lines → Going t x → P t x.buffer → End (finish (stages_of l) x)
    unfolding stages_of
    going zero t x e g p =
        let s = stages_of l in
        let u : t ≡ l.lines = omega arith in
        let h : x.progress ≡ l.lines * 2 = omega (arith, g.at) in
        let room : l.need ≤ length x.scratch = omega (arith, g.same', fit.room) in
        let z : Memory = put (to_progress (suc x.progress)) (with_scratch x (filled l.need (λ k. k) (λ k. 0) x.scratch)) in
        let q : finish s x ≡ z = finish-stage s x (omega arith) ∙ ap (finish s) (stage_clear l x h) ∙ rw (remaining_none s z (omega arith)) in
        subst End (sym q)
        (record {
          moved = subst (λ (k : ℕ). P k x.buffer) u p;
          cleared = filled_front l.need (λ k. 0) x.scratch room ∙ ap₂ ◌++◌ (tab_zero l.need) g.past;
          counted = omega arith;
        })
    going (suc n) t x e g p =
        let s = stages_of l in
        let h : t < l.lines = omega arith in
        let a : x.progress ≡ t * 2 = g.at in
        let y : Memory = put (to_progress (suc x.progress)) (with_scratch x (lifted l t x.buffer x.scratch)) in
        let b : y.progress ≡ t * 2 + 1 = omega arith in
        let z : Memory = put (to_progress (suc y.progress)) (with_buffer y (returned l t y.scratch y.buffer)) in
        let q : finish s x ≡ finish s z =
        finish-stage s x (omega arith) ∙ ap (finish s) (stage_lift l t x h a) ∙ finish-stage s y (omega arith) ∙ ap (finish s) (stage_return l t y h b) in
        let m = line_moved t x.buffer x.scratch h g.same g.same' in
        let v : ℕ → ℕ = λ k. get_or x.buffer (l.pos t (l.src t k)) 0 in
        subst End (sym q)
        (going n (suc t) z (omega arith)
        (record {
          at = omega arith;
          same = m.same ∙ g.same;
          same' = length_filled (l.count t) (λ k. k) v x.scratch ∙ g.same';
          past = past_filled l.need (l.count t) v x.scratch (fit.short t h) ∙ g.past;
        })
        (step t x.buffer z.buffer h p m))

    -- an uncut turn: what each line's move carries on holds of the buffer, scratch is cleared, and every stage is counted
    pub turn_ends : P 0 b₀ → End (finish (stages_of l) (record { buffer = b₀; scratch = sc₀; progress = 0 }))
    turn_ends p = going l.lines 0 (record { buffer = b₀; scratch = sc₀; progress = 0 }) (omega arith) (record { at = refl; same = refl; same' = refl; past = refl }) p
