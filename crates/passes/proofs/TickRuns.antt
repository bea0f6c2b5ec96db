-- Any run of calls from a record at 0, by one induction over the calls: the lines named so far have moved, one after the other, so that after k
-- accepted calls the record is the smaller of k and the line count, and at the line count the buffer holds the flat turn; a call after
-- that changes neither. A player may stop and go on whenever it likes.
use Rattle.lists.proofs.Kit.{◌≡◌, refl, sym, ap, ◌∙◌, subst, List, ◌↔◌, ⊎_elim, ℕ, suc, ◌+◌, ◌<◌, ◌≤◌, min, not-suc-le-zero, arith, length, lt-ltb, le-ltb, lt-or-ge, eq-or-ne}
use Rattle.refusals.specs.FirstOf.{first_of}
use Rattle.refusals.specs.Calls.{passes_checks}
use Rattle.flat.specs.Turn.{sides, Turn}
use Rattle.passes.specs.Lines.{skipped, line_count}
use Rattle.passes.proofs.Ran.{Ran, ran_more}
use Rattle.passes.proofs.Ran.Ran.{done}
use Rattle.passes.proofs.Passed.{LineStep, skipped_le, skipped_few, lines_turn}
use Rattle.passes.proofs.Accepted.{Accepted, flat_accepted}
use Rattle.passes.proofs.Plain.{plain_count, Stepped}
use Rattle.passes.proofs.Ticks.{flat_passed, in_time, stepped}
use Rattle.passes.specs.Steps.{StepPromise}
use Rattle.passes.specs.TickRuns.{Run}
use Rattle.passes.specs.TickRuns.Run.{begun, accepted, refused}
use Rattle.passes.specs.declared.LineRecord.{LineRecord}

-- the lines that are done have moved, one after the other
abbrev Through : ℕ → ℕ → List ℕ → ℕ → List ℕ → Type 0
Through m n xs d ys = Ran (LineStep m n) (skipped m n + d) (skipped m n) xs ys

module _ {m n : ℕ} where
  -- what an accepted call found
  sound : {before after : LineRecord} {ys ss zs ts : List ℕ} → StepPromise m n before ys ss 0 after zs ts → Accepted m n ys ss
  sound {before} {ys = ys} {ss} p = flat_accepted m n ys ss (flat_passed m n before.done ys ss (sym p.block.number_is))

  -- and what it left
  left : {before after : LineRecord} {ys ss zs ts : List ℕ} → StepPromise m n before ys ss 0 after zs ts → Stepped m n before.done ys zs
  left {before} {ys = ys} {ss} p = stepped m n before.done ys ss (flat_passed m n before.done ys ss (sym p.block.number_is)) (p.block.words refl)

  -- after one more accepted call one more line is done, if one was left
  counted : {before after : LineRecord} {ys ss zs ts : List ℕ} (k : ℕ) → StepPromise m n before ys ss 0 after zs ts → before.done ≡ min k (line_count m n)
      → after.done ≡ min (k + 1) (line_count m n)
  counted {before} k p e =
      ⊎_elim
      (λ (h : before.done < line_count m n). p.given refl ∙ rw (lt-ltb before.done (line_count m n) h) (omega arith))
      (λ (h : line_count m n ≤ before.done). p.given refl ∙ rw (le-ltb before.done (line_count m n) h) (omega arith))
      (lt-or-ge before.done (line_count m n))

  -- the record is the smaller of the accepted calls and the line count
  pub run_record : {xs : List ℕ} {k : ℕ} {r : LineRecord} {ys : List ℕ} → Run m n xs k r ys → r.done ≡ min k (line_count m n)
  run_record begun = omega arith
  run_record (accepted {k = k} run p) = counted k p (run_record run)
  run_record (refused run z p) = p.refusal z ∙ run_record run

  -- so it reaches the line count at exactly the accepted call of that number
  pub reaches : {xs : List ℕ} {k : ℕ} {r : LineRecord} {ys : List ℕ} → Run m n xs k r ys → (r.done ≡ line_count m n) ↔ (line_count m n ≤ k)
  reaches run = (λ e. omega (arith, run_record run), λ h. omega (arith, run_record run))

  -- sides with which a call was accepted
  sides_sound : {xs : List ℕ} {k : ℕ} {r : LineRecord} {ys : List ℕ} → Run m n xs k r ys → 0 < k → (0 < m) × (0 < n)
  sides_sound begun h = absurd (not-suc-le-zero h)
  sides_sound (accepted run p) h = let a = sound p in (a.m_pos, a.n_pos)
  sides_sound (refused run z p) h = sides_sound run h

  one_more : {before after : LineRecord} {xs ys ss zs ts : List ℕ} → StepPromise m n before ys ss 0 after zs ts → Through m n xs before.done ys
      → Through m n xs after.done zs
  one_more {before} {after} {xs} {ys} {zs = zs} p r =
      ⊎_elim
      (λ (h : before.done < line_count m n).
      let next : after.done ≡ before.done + 1 = p.given refl ∙ rw (lt-ltb before.done (line_count m n) h) in
      let e : suc (skipped m n + before.done) ≡ skipped m n + after.done = omega arith in
      subst (λ (d : ℕ). Ran (LineStep m n) d (skipped m n) xs zs) e (ran_more r ((left p).moved h)))
      (λ (h : line_count m n ≤ before.done).
      let e : before.done ≡ after.done = sym (p.given refl ∙ rw (le-ltb before.done (line_count m n) h)) in
      rw (← e, (left p).still h) r)
      (lt-or-ge before.done (line_count m n))

  run_through : {xs : List ℕ} {k : ℕ} {r : LineRecord} {ys : List ℕ} → Run m n xs k r ys → Through m n xs r.done ys
  run_through {xs} begun = subst (λ (d : ℕ). Ran (LineStep m n) d (skipped m n) xs xs) (omega arith) done
  run_through (accepted run p) = one_more p (run_through run)
  run_through {xs} (refused run z p) =
      let r = run_through run in
      rw (p.refusal z, (p.block.kept z).0) r

  -- from the accepted call of that number on the buffer holds the flat turn
  pub run_turned : {xs : List ℕ} {k : ℕ} {r : LineRecord} {ys : List ℕ} → Run m n xs k r ys → 0 < k → line_count m n ≤ k → Turn m n xs ys
  run_turned {xs} {k} {r} {ys} run some h =
      let s = sides_sound run some in
      let all : skipped m n + r.done ≡ n + m + n = omega (arith, run_record run, skipped_few m n s.0 s.1) in
      lines_turn m n s.0 s.1 (skipped m n) (skipped_le m n s.0 s.1)
      (subst (λ (d : ℕ). Ran (LineStep m n) d (skipped m n) xs ys) all (run_through run))

  -- and a call after that changes neither buffer nor record, whether it is refused or not
  pub run_over : {xs : List ℕ} {k : ℕ} {r : LineRecord} {ys : List ℕ} → Run m n xs k r ys → line_count m n ≤ k
      → {number : ℕ} {after : LineRecord} {ss zs ts : List ℕ} → StepPromise m n r ys ss number after zs ts → (zs ≡ ys) × (after.done ≡ r.done)
  run_over {r = r} run h {number} p =
      let full : line_count m n ≤ r.done = omega (arith, run_record run) in
      ⊎_elim
      (λ (z : number ≡ 0). ((p.block.words z).none_left (rw (plain_count m n) at full), p.given z ∙ rw (le-ltb r.done (line_count m n) full)))
      (λ (z : number ≡ 0 → ⊥). ((p.block.kept z).0, p.refusal z))
      (eq-or-ne number 0)

  -- the buffer stays as long as it was
  run_long : {xs : List ℕ} {k : ℕ} {r : LineRecord} {ys : List ℕ} → Run m n xs k r ys → length ys ≡ length xs
  run_long begun = refl
  run_long (accepted {before = before} {ys = ys} {zs = zs} run p) =
      ⊎_elim
      (λ (h : before.done < line_count m n). ((left p).moved h).same)
      (λ (h : line_count m n ≤ before.done). ap length ((left p).still h))
      (lt-or-ge before.done (line_count m n))
      ∙ run_long run
  run_long (refused run z p) = ap length (p.block.kept z).0 ∙ run_long run

  -- it answers 0 where none of the flat turn's conditions held of the buffer at first, and so does every call of a run
  pub run_answers : {xs : List ℕ} {k : ℕ} {r : LineRecord} {ys : List ℕ} → Run m n xs k r ys
      → {number : ℕ} {after : LineRecord} {ss zs ts : List ℕ} → StepPromise m n r ys ss number after zs ts
      → first_of (passes_checks (sides m n) xs ss) ≡ 0 → number ≡ 0
  run_answers {r = r} {ys} run {ss = ss} p good =
      let few : r.done ≤ line_count m n = omega (arith, run_record run) in
      p.block.number_is ∙ in_time m n r.done ys ss (rw (run_long run) good) few
