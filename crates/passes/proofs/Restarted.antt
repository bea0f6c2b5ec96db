-- Restart: a mapped turn begun at progress 0, stopped in any way that keeps the order of stages and gone on with, leaves the flat turn once a budget is
-- enough. Its stages can be begun again, and uncut they move the lines of the turn one after the other. A call with any budget is such a stop, and a
-- budget of 10,000,000 is enough from every stage on.
use Rattle.lists.proofs.Kit.{◌≡◌, refl, sym, ap, ◌∙◌, subst, List, ⊎_elim, ℕ, suc, ◌+◌, ◌*◌, ◌<◌, ◌≤◌, arith, eq_of_mul-eq-mul_left, length, eq-or-ne}
use Rattle.refusals.specs.FirstOf.{first_of}
use Rattle.refusals.specs.Calls.{block_checks, passes_checks}
use Rattle.refusals.proofs.Calls.{block_good, room_passed}
use Rattle.flat.specs.Turn.{sides}
use Rattle.flat.proofs.Turn.{one_turn}
use Rattle.flat.proofs.Sides.{Sides, sides_are}
use Rattle.stages.specs.Stages.{Memory, remaining, finish}
use Rattle.stages.specs.Lines.{stages_of}
use Rattle.stages.specs.Stops.{Stop, Stops}
use Rattle.stages.specs.Stops.Stop.{still}
use Rattle.stages.specs.Stops.Stops.{never, again}
use Rattle.stages.proofs.Calls.{call_done, call_enough, finish_counts}
use Rattle.stages.proofs.Lines.{steady}
use Rattle.stages.proofs.Stops.{restart_from, stops_within, stops_long, call_stop}
use Rattle.stages.proofs.Moves as moves
use Rattle.passes.specs.Lines.{Moved, line_count, line_of, skipped, pos_on, received}
use Rattle.passes.specs.PrivateScratch.{Fits}
use Rattle.flat.specs.Promises.{TurnPromise}
use Rattle.passes.specs.Restart.{memory, turn_lines, turn_stages, resume_checks, ResumePromise, Finished, Restarts}
use Rattle.passes.specs.Restart.Restarts.{none, more}
use Rattle.passes.proofs.Accepted.{Accepted, flat_accepted, flat_lies}
use Rattle.passes.proofs.Fits.{line_fits, line_short}
use Rattle.passes.proofs.Received.{received_moved}
use Rattle.passes.proofs.Passed.{LineStep, skipped_le, skipped_few, lines_turn}
use Rattle.passes.proofs.Ran.{Ran, ran_more}
use Rattle.passes.proofs.Ran.Ran.{done}
use Rattle.passes.proofs.Stores.{at_most}
use Rattle.passes.proofs.Resumed.{flat_passed, in_range, within_range}

-- from every stage on 10,000,000 stores are enough
pub enough : (m n : ℕ) (x : Memory) → first_of (resume_checks m n x) ≡ 0 → length (remaining (turn_stages m n) x) ≤ 10000000
enough m n x e =
    let a = flat_accepted m n x.buffer x.scratch (flat_passed m n x e) in
    omega (arith, at_most m n (skipped_few m n a.m_pos a.n_pos) a.m_few a.n_few a.few x)

-- the checks read lengths
same_lengths : (m n : ℕ) (x y : Memory) → length y.buffer ≡ length x.buffer → length y.scratch ≡ length x.scratch
    → first_of (passes_checks (sides m n) x.buffer x.scratch) ≡ 0 → first_of (passes_checks (sides m n) y.buffer y.scratch) ≡ 0
same_lengths m n x y e f good =
    let a = flat_accepted m n x.buffer x.scratch good in
    let block : first_of (block_checks (sides m n) y.buffer) ≡ 0 = rw e (block_good (sides m n) x.buffer x.scratch good) in
    sym (room_passed (sides m n) y.buffer y.scratch block (rw f a.room))

module _ {m n : ℕ} where
  -- a call is a stop of which the order of stages is kept, whether it is refused, stopped by its budget or neither
  pub resume_stop : {b r : ℕ} {x y : Memory} → ResumePromise m n b x r y → Stop (turn_stages m n) x y
  resume_stop {b} {r} {x} p =
      ⊎_elim
      (λ (z : r ≡ 0). subst (Stop (turn_stages m n) x) (sym (p.stored z)) (call_stop (steady (turn_lines m n)) x b))
      (λ (z : r ≡ 0 → ⊥). subst (Stop (turn_stages m n) x) (sym (p.kept z)) still)
      (eq-or-ne r 0)

  restarts_stops : {bs : List ℕ} {x y : Memory} → Restarts m n bs x y → Stops (turn_stages m n) x y
  restarts_stops none = never
  restarts_stops (more p r) = again (resume_stop p) (restarts_stops r)

  module _ {b₀ sc₀ : List ℕ} (a : Accepted m n b₀ sc₀) where
    flat_sides : Sides m n
    flat_sides = sides_are m n a.m_pos a.n_pos

    fits : (t : ℕ) → t < line_count m n → Fits m n (line_of m n t) b₀ sc₀
    fits t h = line_fits a.m_pos a.n_pos (flat_lies a) (skipped m n + t) (omega (arith, skipped_few m n a.m_pos a.n_pos))

    -- the lines lie in the buffer
    lines_fit : moves.Fit (turn_lines m n) b₀ sc₀
    lines_fit = record {
      inside = λ t k h d. (fits t h).lain.inside k d;
      apart = λ t j k h _ _ e. eq_of_mul-eq-mul_left (line_of m n t).stride (fits t h).lain.step j k (omega arith);
      short = λ t h. line_short m n (skipped m n + t) (omega (arith, skipped_few m n a.m_pos a.n_pos));
      room = a.room;
    }

    -- the lines so far have moved, one after the other
    abbrev Through : ℕ → List ℕ → Type 0
    Through t xs = Ran (LineStep m n) (skipped m n + t) (skipped m n) b₀ xs

    through_none : Through 0 b₀
    through_none = subst (λ (d : ℕ). Ran (LineStep m n) d (skipped m n) b₀ b₀) (omega arith) done

    through_more : (t : ℕ) (xs ys : List ℕ) → t < line_count m n → Through t xs → moves.LineMoved (turn_lines m n) t xs ys → Through (suc t) ys
    through_more t xs ys h r p =
        let l = line_of m n t in
        let q : Moved l.count (pos_on l) (λ k. k) (received m n l.pass l.index) xs ys = record { same = p.same; placed = p.placed; others = p.others } in
        subst (λ (d : ℕ). Ran (LineStep m n) d (skipped m n) b₀ ys) (omega arith)
        (ran_more r (received_moved flat_sides a.m_pos a.n_pos l (fits t h).of_pass xs ys q))

    -- so an uncut turn from the start is finished
    uncut : Finished m n b₀ sc₀ (finish (turn_stages m n) (memory b₀ sc₀ 0))
    uncut =
        let e = moves.turn_ends lines_fit Through through_more through_none in
        let y = finish (turn_stages m n) (memory b₀ sc₀ 0) in
        let all : skipped m n + line_count m n ≡ n + m + n = omega (arith, skipped_few m n a.m_pos a.n_pos) in
        record {
          turned = lines_turn m n a.m_pos a.n_pos (skipped m n) (skipped_le m n a.m_pos a.n_pos)
              (subst (λ (d : ℕ). Ran (LineStep m n) d (skipped m n) b₀ y.buffer) all e.moved);
          zeroed = e.cleared;
          counted = e.counted;
        }

  -- after any stops of which the machine kept the order of stages alone, whatever stands at the places of the stage that was begun, a call whose budget is
  -- enough for what then remains finishes the turn, with the very words of an uncut one
  pub restarted_from : {b r : ℕ} {b₀ sc₀ : List ℕ} {x y : Memory} → first_of (passes_checks (sides m n) b₀ sc₀) ≡ 0
      → Stops (turn_stages m n) (memory b₀ sc₀ 0) x → ResumePromise m n b x r y → length (remaining (turn_stages m n) x) ≤ b
      → (r ≡ 0) × (y ≡ finish (turn_stages m n) (memory b₀ sc₀ 0)) × Finished m n b₀ sc₀ y
  unfolding stages_of
  restarted_from {b} {r} {b₀} {sc₀} {x} {y} good stops p h =
      let long = stops_long stops in
      let flat = same_lengths m n (memory b₀ sc₀ 0) x long.0 long.1 good in
      let few : x.progress ≤ line_count m n * 2 + 1 = stops_within stops (omega arith) in
      let z : r ≡ 0 = p.number_is ∙ in_range m n x flat few in
      let e : y ≡ finish (turn_stages m n) (memory b₀ sc₀ 0) = p.stored z ∙ restart_from (steady (turn_lines m n)) b stops h in
      (z, e, subst (Finished m n b₀ sc₀) (sym e) (uncut (flat_accepted m n b₀ sc₀ good)))

  -- so it does after any run of budgets from progress 0
  pub restarted : {bs : List ℕ} {b r : ℕ} {b₀ sc₀ : List ℕ} {x y : Memory} → first_of (passes_checks (sides m n) b₀ sc₀) ≡ 0
      → Restarts m n bs (memory b₀ sc₀ 0) x → ResumePromise m n b x r y → length (remaining (turn_stages m n) x) ≤ b
      → (r ≡ 0) × (y ≡ finish (turn_stages m n) (memory b₀ sc₀ 0)) × Finished m n b₀ sc₀ y
  restarted good rs p enough = restarted_from good (restarts_stops rs) p enough

  -- which are the words that the flat turn leaves, in the buffer and in scratch
  pub as_the_turn : {b₀ sc₀ b sc : List ℕ} {y : Memory} → Finished m n b₀ sc₀ y → TurnPromise m n b₀ sc₀ 0 b sc → (y.buffer ≡ b) × (y.scratch ≡ sc)
  as_the_turn f t = (one_turn f.turned (t.words refl), f.zeroed ∙ sym (t.zeroed refl))

  -- so a budget of 10,000,000 always finishes: every stage is counted
  pub always_finishes : {b : ℕ} {x y : Memory} → 10000000 ≤ b → ResumePromise m n b x 0 y → (y ≡ finish (turn_stages m n) x) × (y.progress ≡ line_count m n * 2 + 1)
  unfolding stages_of
  always_finishes {b} {x} {y} h p =
      let good = sym p.number_is in
      let e : y ≡ finish (turn_stages m n) x = p.stored refl ∙ call_enough (turn_stages m n) b x (omega (arith, enough m n x good)) in
      (e, ap (λ (z : Memory). z.progress) e ∙ finish_counts (turn_stages m n) x (within_range m n x good))

  -- a budget of 0 changes nothing; where every stage is counted nothing is stored, and scratch is not cleared again
  pub no_budget : {x y : Memory} → ResumePromise m n 0 x 0 y → y ≡ x
  no_budget p = p.stored refl

  pub nothing_left : {b : ℕ} {x y : Memory} → ResumePromise m n b x 0 y → x.progress ≡ line_count m n * 2 + 1 → y ≡ x
  unfolding stages_of
  nothing_left {b} {x} p e = p.stored refl ∙ call_done (turn_stages m n) b x (omega arith)
