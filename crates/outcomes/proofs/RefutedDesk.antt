-- Wrong versions of the join desk, as tables: rounding around zero, a delay of zero, the ends of the common frames, the order of checks; and of choosing, ties
-- between and within the paths, and parts that hold the right readings elsewhere. A signed number stands in a table as a natural one. The exchange that is chosen
-- stands in the entry, and the test sees that it wins.
use Rattle.lists.proofs.Kit.{◌≡◌, refl, sym, ◌∙◌, Bool, true, List, [], ◌∷◌, ◌++◌, ℕ, zero, suc, ◌+◌, ◌*◌, ◌^◌, arith, T, length}
use Rattle.std.specs.Borrow.{Bor}
use lib.IntN.{ℤ, pos, negsuc}
use lib.Signed.{le_z, lt_z, ◌≤ℤ◌, ◌<ℤ◌, le_z_yes, lt_z_yes}
use Rattle.refusals.specs.FirstOf.{first_of}
use Rattle.desk.specs.declared.Measured.{Measured}
use Rattle.desk.specs.declared.Frames.{Frames}
use Rattle.desk.specs.declared.Joined.{Joined}
use Rattle.desk.specs.Conditions.{measure_checks, frames_checks, join_checks}
use Rattle.desk.specs.Exchange.{offset_of, delay_of}
use Rattle.desk.specs.Frames.{nearest_frame}
use Rattle.desk.specs.Shifts.{through, largest, end_of}
use Rattle.desk.specs.Promises.{OffsetDelayPromise, ToFramesPromise, JoinPromise}
use Rattle.desk.specs.Choice.{exchanges, four_at, delay_at, usable, Best, FirstWins, SecondWins}
use Rattle.desk.specs.ChoiceConditions.{choose_checks}
use Rattle.desk.specs.ChoicePromises.{Four, ChoosePromise}
use Rattle.desk.specs.ChoicePromises.Four.{of_first, of_second}
use Rattle.desk.proofs.ChoiceOutcome.{choose_once}
use Rattle.outcomes.specs.Wrong.{Case, Row, Refuted}
use Rattle.outcomes.proofs.Wrong.{refuted}
use Rattle.outcomes.specs.Wrong.Row.{wrong, gives, late, refuses}
use Rattle.outcomes.proofs.Tested.{Tested, less, holds, also, hence, where_true, at_each}
use Rattle.outcomes.proofs.Shapes.{numbered, answering, by_number}

-- twice a number, and one more than twice for those below zero
abbrev code : ℤ → ℕ
code (pos n) = n + n
code (negsuc n) = suc (n + n)

-- offset and delay
abbrev pub measure : List ℤ → Case Measured
measure run =
    answering (λ r. r.number) (λ _. record { number = 0; offset = offset_of run; delay = delay_of run }) (λ k. record { number = k; offset = pos 0; delay = pos 0 })
    (measure_checks run) (OffsetDelayPromise run)
    (λ r p. record {
      number_is = p.number_is;
      gives = λ z i. record { number = z i; offset = (p.given z i).0; delay = (p.given z i).1 };
      refuses = λ k i. record { number = r.number; offset = (p.refused k i).0; delay = (p.refused k i).1 };
    })

abbrev offset : Measured → List ℕ
offset r = code r.offset ∷ []

abbrev delay : Measured → List ℕ
delay r = code r.delay ∷ []

-- of 1 0 0 0 the sum is −1, so the offset is −1, and the delay is −1
abbrev run_1 : List ℤ
run_1 = pos 1 ∷ pos 0 ∷ pos 0 ∷ pos 0 ∷ []

abbrev pub measured : List (Row Measured)
measured =
    refuses "offset_delay/refuses-always" (measure run_1)
    ∷ wrong "offset_delay/halves-towards-zero" (measure run_1) offset (code (pos 0) ∷ [])
    ∷ wrong "offset_delay/delay-sign-turned" (measure run_1) delay (code (pos 1) ∷ [])
    ∷ gives "offset_delay/negative-delay-refused" (measure run_1) 19
    ∷ wrong "offset_delay/refusal-with-an-offset" (measure []) offset (code (pos 1) ∷ [])
    -- 2 to the 60th itself, either side of zero
    ∷ gives "offset_delay/limit-refused" (measure (pos (2 ^ 60) ∷ pos 0 ∷ pos 0 ∷ pos 0 ∷ [])) 18
    ∷ gives "offset_delay/limit-refused-below" (measure (negsuc 1152921504606846975 ∷ pos 0 ∷ pos 0 ∷ pos 0 ∷ [])) 18
    -- one far reading is no run of four
    ∷ late "offset_delay/eighteen-before-twenty-six" (measure (pos (2 ^ 60 + 1) ∷ [])) 18 26
    ∷ []

pub measured_refuted : Refuted measured
measured_refuted = refuted measured refl

-- to frames
abbrev pub framed : ℤ → ℕ → Case Frames
framed offset ticks =
    answering (λ r. r.number) (λ _. record { number = 0; frames = nearest_frame ticks offset }) (λ k. record { number = k; frames = pos 0 })
    (frames_checks offset ticks) (ToFramesPromise offset ticks)
    (λ r p. record {
      number_is = p.number_is;
      gives = λ z i. record { number = z i; frames = p.given z i };
      refuses = λ k i. record { number = r.number; frames = p.refused k i };
    })

abbrev frames : Frames → List ℕ
frames r = code r.frames ∷ []

-- at two ticks a frame offset −1 is an exact half below zero, and 1 one above
abbrev pub framings : List (Row Frames)
framings =
    refuses "to_frames/refuses-always" (framed (pos 1) 2)
    ∷ wrong "to_frames/half-towards-minus-infinity" (framed (negsuc 0) 2) frames (code (negsuc 0) ∷ [])
    ∷ wrong "to_frames/half-towards-zero" (framed (pos 1) 2) frames (code (pos 0) ∷ [])
    ∷ wrong "to_frames/always-rounded-down" (framed (pos 2) 3) frames (code (pos 0) ∷ [])
    ∷ gives "to_frames/million-refused" (framed (pos 0) 1000000) 21
    ∷ wrong "to_frames/refusal-with-frames" (framed (pos 7) 0) frames (code (pos 7) ∷ [])
    ∷ late "to_frames/eighteen-before-twenty-one" (framed (pos (2 ^ 61 + 1)) 0) 18 21
    ∷ []

pub framings_refuted : Refuted framings
framings_refuted = refuted framings refl

-- joining
abbrev pub join : List ℤ → ℕ → Case Joined
join shifts frames =
    answering (λ r. r.number) (λ _. record { number = 0; first = largest shifts; end = end_of shifts frames }) (λ k. record { number = k; first = pos 0; end = pos 0 })
    (join_checks shifts frames) (JoinPromise shifts frames)
    (λ r p. record {
      number_is = p.number_is;
      gives = λ z i. record { number = z i; first = (p.given z i).0; end = (p.given z i).1 };
      refuses = λ k i. record { number = r.number; first = (p.refused k i).0; end = (p.refused k i).1 };
    })

abbrev first : Joined → List ℕ
first r = code r.first ∷ []

abbrev end : Joined → List ℕ
end r = code r.end ∷ []

-- two cameras with shifts −1 and 2 and four frames each have frame 2 in common; with three frames each none is
abbrev two : List ℤ
two = negsuc 0 ∷ pos 2 ∷ []

abbrev pub joins : List (Row Joined)
joins =
    refuses "join/refuses-always" (join two 4)
    ∷ wrong "join/end-one-too-far" (join two 4) end (code (pos 4) ∷ [])
    ∷ wrong "join/from-the-smallest" (join two 4) first (code (negsuc 0) ∷ [])
    ∷ gives "join/empty-join-accepted" (join two 3) 0
    ∷ wrong "join/none-common-with-ends" (join two 3) first (code (pos 2) ∷ [])
    ∷ gives "join/no-cameras-joined" (join [] 3) 0
    ∷ late "join/eighteen-before-one" (join (pos (2 ^ 61 + 1) ∷ []) 4097) 18 1
    ∷ []

pub joins_refuted : Refuted joins
unfolding through
joins_refuted = refuted joins refl

-- an exchange whose delay is 0, one whose delay is 1, and one with a far reading
abbrev delay_0 : List ℤ
delay_0 = pos 0 ∷ pos 0 ∷ pos 0 ∷ pos 0 ∷ []

abbrev delay_1 : List ℤ
delay_1 = pos 0 ∷ pos 0 ∷ pos 0 ∷ pos 1 ∷ []

abbrev too_far : List ℤ
too_far = pos (2 ^ 60 + 1) ∷ pos 0 ∷ pos 0 ∷ pos 0 ∷ []

abbrev pub numbers : List (Row ℕ)
numbers =
    refuses "choose_number/refuses-always" (numbered (choose_checks delay_1 []))
    ∷ gives "choose_number/zero-delay-unusable" (numbered (choose_checks delay_0 [])) 19
    ∷ gives "choose_number/negative-delay-usable" (numbered (choose_checks run_1 [])) 0
    ∷ gives "choose_number/empty-runs-accepted" (numbered (choose_checks [] [])) 0
    -- a far reading of an exchange that is not chosen
    ∷ gives "choose_number/far-reading-passed-over" (numbered (choose_checks delay_0 too_far)) 0
    -- the far reading stands in the first run, and the odd length is the second's
    ∷ late "choose_number/eighteen-before-twenty-six" (numbered (choose_checks too_far (pos 0 ∷ []))) 18 26
    ∷ []

pub numbers_refuted : Refuted numbers
unfolding delay_at
numbers_refuted = refuted numbers refl

-- The exchange that wins, by the tests of the signed order.
abbrev at_most : (a b : ℤ) → Tested (a ≤ℤ b)
at_most a b = record { passes = le_z a b; sound = le_z_yes }

abbrev under : (a b : ℤ) → Tested (a <ℤ b)
under a b = record { passes = lt_z a b; sound = lt_z_yes }

abbrev best : (run : List ℤ) (m j : ℕ) → Tested (Best run m j)
best run m j =
    hence
    (also (less j m)
    (also (holds (usable run j))
    (also (at_each m (λ i. where_true (usable run i) (at_most (delay_at run j) (delay_at run i))))
    (at_each j (λ i. where_true (usable run i) (under (delay_at run j) (delay_at run i)))))))
    (λ f. record { within = f.0; can = f.1.0; smallest = f.1.1.0; earliest = f.1.1.1 })

module _ (first second : List ℤ) (j : ℕ) where
  abbrev first_wins : Tested (FirstWins first second j)
  first_wins =
      hence (also (best first (exchanges first) j) (at_each (exchanges second) (λ i. where_true (usable second i) (at_most (delay_at first j) (delay_at second i)))))
      (λ f. record { best = f.0; ahead = f.1 })

  abbrev second_wins : Tested (SecondWins first second j)
  second_wins =
      hence (also (best second (exchanges second) j) (at_each (exchanges first) (λ i. where_true (usable first i) (under (delay_at second j) (delay_at first i)))))
      (λ f. record { best = f.0; ahead = f.1 })

-- a part of memory: the block that it lies in, its place there in bytes, and its readings
pub record Part : Type 0 where
  pub block : ℕ
  pub place : ℕ
  pub readings : List ℤ

abbrev part : ℕ → ℕ → List ℤ → Part
part block place readings = record { block = block; place = place; readings = readings }

-- a reference to it
abbrev ref : Part → Bor (List ℤ)
ref p = record { ref_ptr = (p.block, p.place); now = p.readings }

-- choosing from two runs that lie at the start of blocks 1 and 2
module _ (first second : List ℤ) where
  abbrev pub Chosen : Part → Type 0
  Chosen p = ChoosePromise (ref (part 1 0 first)) (ref (part 2 0 second)) (ref p)

  -- where this part is handed back if none of the checks holds
  module _ (won : Part) (test : Unit {0} → Bool) (four : T (test tt) → Four (ref (part 1 0 first)) (ref (part 2 0 second)) (ref won)) where
    pub chosen : (k : ℕ) → first_of (choose_checks first second) ≡ k → T (by_number test (λ _. true) k) → Chosen (by_number (λ _. won) (λ _. part 1 0 []) k)
    chosen zero e t = record { given = λ _. four t; refused = λ n. absurd (n e) }
    chosen (suc k) e t = record { given = λ z. absurd (omega (arith, sym e ∙ z)); refused = λ _. record { readings = refl; block = refl; place = refl } }

    abbrev pub choosing : Case Part
    choosing =
        let k = first_of (choose_checks first second) in
        record {
          Promise = Chosen;
          checks = choose_checks first second;
          number = λ p. 0;
          right = by_number (λ _. won) (λ _. part 1 0 []) k;
          seen = by_number test (λ _. true) k;
          only = λ t o p. let s = choose_once p (chosen k refl t) in λ i. part (s.block i) (s.place i) (s.readings i);
        }

  -- exchange j of the first path wins, or of the second
  abbrev pub choose_first : ℕ → Case Part
  choose_first j =
      choosing (part 1 (0 + 4 * j * 8) (four_at first j)) (λ _. (first_wins first second j).passes)
      (λ t. of_first j ((first_wins first second j).sound t) (record { readings = refl; block = refl; place = refl }))

  abbrev pub choose_second : ℕ → Case Part
  choose_second j =
      choosing (part 2 (0 + 4 * j * 8) (four_at second j)) (λ _. (second_wins first second j).passes)
      (λ t. of_second j ((second_wins first second j).sound t) (record { readings = refl; block = refl; place = refl }))

abbrev block : Part → List ℕ
block p = p.block ∷ []

abbrev place : Part → List ℕ
place p = p.place ∷ []

abbrev count : Part → List ℕ
count p = length p.readings ∷ []

abbrev pub parts : List (Row Part)
parts =
    -- one exchange a path, both with delay 0; delay 1 before delay 0
    wrong "choose/second-path-wins-ties" (choose_first delay_0 delay_0 0) block (2 ∷ [])
    ∷ wrong "choose/first-path-always" (choose_second delay_1 delay_0 0) block (1 ∷ [])
    -- two in the first run, both with delay 0; delay 1 before delay 0: 32 bytes are four readings
    ∷ wrong "choose/later-wins-ties" (choose_first (delay_0 ++ delay_0) [] 0) place (32 ∷ [])
    ∷ wrong "choose/larger-delay-chosen" (choose_first (delay_1 ++ delay_0) [] 1) place (0 ∷ [])
    ∷ wrong "choose/nothing-handed-back" (choose_first delay_0 [] 0) count (0 ∷ [])
    -- four readings that are equal to the chosen ones, in another block
    ∷ wrong "choose/equal-readings-elsewhere" (choose_first delay_0 [] 0) block (3 ∷ [])
    -- nothing is usable: the empty start of the first run is due
    ∷ wrong "choose/empty-start-of-second" (choose_first [] [] 0) block (2 ∷ [])
    ∷ []

pub parts_refuted : Refuted parts
unfolding delay_at
parts_refuted = refuted parts refl
