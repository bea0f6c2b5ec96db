-- Any two outcomes of a tick coincide: each place of the line receives the word that its pass says, and every other word stands.
use Rattle.lists.proofs.Kit.{◌≡◌, sym, ap, ap₂, ◌∙◌, List, ⊎_elim, ℕ, ◌<◌, ◌≤◌, get_or, lt-or-ge}
use Rattle.std.specs.Prelude.{Result, Ok, Err}
use Rattle.refusals.specs.declared.Refusal.{Refusal}
use Rattle.refusals.proofs.Numbers.{refuses, one_refusal}
use Rattle.refusals.specs.FirstOf.{first_of}
use Rattle.refusals.specs.Calls.{passes_checks}
use Rattle.refusals.proofs.Promise.{one_accepted}
use Rattle.flat.specs.Turn.{sides}
use Rattle.passes.specs.Lines.{line_count, line_of, LineMoved, pos_on, received}
use Rattle.passes.specs.PrivateScratch.{Filled}
use Rattle.passes.specs.Plain.{LineTicked}
use Rattle.passes.specs.Ticks.{Ticked, TickPromise, LinesPromise, in_c, ticked}
use Rattle.passes.specs.declared.LineCount.{LineCount}
use Rattle.flat.proofs.Sides.{sides_are}
use Rattle.passes.proofs.Accepted.{flat_accepted}
use Rattle.passes.proofs.Filled.{one_filled}
use Rattle.passes.proofs.OneOutcome.{one_answer}
use Rattle.passes.proofs.Received.{moved_received}
use Rattle.passes.proofs.Ticks.{flat_passed, line_there, stepped}

-- a line that has moved is filled with the words that it receives
filled : (m n done : ℕ) (b₀ s₀ : List ℕ) → first_of (passes_checks (sides m n) b₀ s₀) ≡ 0 → done < line_count m n → {ys : List ℕ} → LineMoved m n (line_of m n done) b₀ ys
    → let l = line_of m n done in Filled (pos_on l) (λ k. get_or b₀ (pos_on l (received m n l.pass l.index k)) 0) l.count b₀ ys
filled m n done b₀ s₀ good h {ys} moved =
    let a = flat_accepted m n b₀ s₀ good in
    let t = moved_received (sides_are m n a.m_pos a.n_pos) a.m_pos a.n_pos (line_of m n done) (line_there m n done b₀ s₀ good h).of_pass b₀ ys moved in
    record { same = t.same; placed = t.placed; others = t.others }

module _ {m n done : ℕ} {b₀ : List ℕ} where
  pub one_line : (s₀ : List ℕ) → first_of (passes_checks (sides m n) b₀ s₀) ≡ 0 → (ys zs : List ℕ) → LineTicked m n done b₀ ys → LineTicked m n done b₀ zs → ys ≡ zs
  one_line s₀ good ys zs p q =
      let f = stepped m n done b₀ s₀ good p in
      let g = stepped m n done b₀ s₀ good q in
      ⊎_elim
      (λ (h : done < line_count m n).
      one_filled (filled m n done b₀ s₀ good h (f.moved h)) (filled m n done b₀ s₀ good h (g.moved h)))
      (λ (h : line_count m n ≤ done). f.still h ∙ sym (g.still h))
      (lt-or-ge done (line_count m n))

  pub tick_once : {s₀ : List ℕ} {t t' : Ticked} {b s b' s' : List ℕ} → TickPromise m n done b₀ s₀ t b s → TickPromise m n done b₀ s₀ t' b' s'
      → (t ≡ t') × (b ≡ b') × (s ≡ s')
  tick_once {s₀} p q =
      let (number, done-too) = one_answer p.block.number_is q.block.number_is p.given q.given p.refusal q.refusal in
      let (_, buffer, scratch) = one_accepted (λ e. one_line s₀ (flat_passed m n done b₀ s₀ e)) p.block q.block in
      (ap₂ (λ (k d : ℕ). let r : Ticked = record { number = k; done = d } in r) number done-too, buffer, scratch)

pub lines_once : {m n : ℕ} {l l' : LineCount} → LinesPromise m n l → LinesPromise m n l' → l ≡ l'
lines_once p q =
    let (number, count) = one_answer p.number_is q.number_is p.given q.given p.refusal q.refusal in
    ap₂ (λ (i c : ℕ). let r : LineCount = record { number = i; count = c } in r) number count

-- an answer of how many lines is told by what C sees of it
pub one_lines : (x y : Result ℕ Refusal) → in_c x ≡ in_c y → x ≡ y
one_lines (Ok a) (Ok b) e = ap (λ (l : LineCount). Ok l.count) e
one_lines (Ok a) (Err s) e = absurd (refuses s (sym (ap (λ (l : LineCount). l.number) e)))
one_lines (Err r) (Ok b) e = absurd (refuses r (ap (λ (l : LineCount). l.number) e))
one_lines (Err r) (Err s) e = ap Err (one_refusal r s (ap (λ (l : LineCount). l.number) e))

-- an answer of a tick is told by the number and the lines done that it leaves
pub one_ticked : (done : ℕ) (x y : Result ℕ Refusal) → ticked done x ≡ ticked done y → x ≡ y
one_ticked done (Ok a) (Ok b) e = ap (λ (t : Ticked). Ok t.done) e
one_ticked done (Ok a) (Err s) e = absurd (refuses s (sym (ap (λ (t : Ticked). t.number) e)))
one_ticked done (Err r) (Ok b) e = absurd (refuses r (ap (λ (t : Ticked). t.number) e))
one_ticked done (Err r) (Err s) e = ap Err (one_refusal r s (ap (λ (t : Ticked). t.number) e))
