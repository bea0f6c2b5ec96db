-- What the calls on r axes answer. Assumes nothing: these are definitions.
use Rattle.std.specs.Prelude.{cond, List, ◌++◌, ℕ, ◌-◌, eqb, length, replicate, Result, Ok, Err}
use Rattle.refusals.specs.Conditions.{no_swap, first_place}
use Rattle.refusals.specs.declared.Refused.{Refused}
use Rattle.refusals.specs.Refusal.{number_of}
use Rattle.axes.specs.declared.Answer.{Answer}
use Rattle.axes.specs.declared.Reached.{Reached}

-- a shape has five lengths: those of its axes, then zeros
abbrev pub five_lengths : List ℕ → List ℕ
five_lengths lengths = lengths ++ replicate (5 - length lengths) 0

-- an accepted call answers the new lengths, the order number and the swaps done
abbrev pub accepted : List ℕ → ℕ → ℕ → Answer
accepted lengths order count = record { number = 0; place = 0; lengths = five_lengths lengths; order = order; swaps = count }

-- a refused call answers its number and place, and 0 in every other field
abbrev pub refused : ℕ → ℕ → Answer
refused number place = record { number = number; place = place; lengths = replicate 5 0; order = 0; swaps = 0 }

-- the place of a refused chain: for 6 that of the first swap that the axes do not have, elsewhere 0
abbrev pub refused_place : ℕ → ℕ → List ℕ → ℕ
refused_place r number chain = cond (eqb number 6) (first_place (no_swap r) chain) 0

-- the answer of a chain as that of a request for an order: where it is accepted, the number that was asked for stands in the place of the chain's own
abbrev pub asked_for : ℕ → Answer → Answer
asked_for order a = record { number = a.number; place = a.place; lengths = a.lengths; order = cond (eqb a.number 0) order a.order; swaps = a.swaps }

-- the number that C sees of an answer: 0 where the call was accepted
abbrev pub number_at : {A : Type 0} → Result A Refused → ℕ
number_at (Ok x) = 0
number_at (Err r) = number_of r.refusal

-- the place that C sees of an answer: 0 where the call was accepted
abbrev pub place_at : {A : Type 0} → Result A Refused → ℕ
place_at (Ok x) = 0
place_at (Err r) = r.place

-- what C sees of an answer: a refused call has 0 in every field but its number and its place
abbrev pub in_c : Result Reached Refused → Answer
in_c (Ok a) = record { number = 0; place = 0; lengths = a.lengths; order = a.order; swaps = a.swaps }
in_c (Err r) = refused (number_of r.refusal) r.place
