-- The number of each refusal, and of an answer. Assumes nothing: these are definitions.
use Rattle.std.specs.Prelude.{ℕ, Result, Ok, Err}
use Rattle.refusals.specs.declared.Refused.{Refused}
use Rattle.refusals.specs.declared.Refusal.{Refusal}
use Rattle.refusals.specs.declared.Refusal.TheVariants.{BadLength, TooManyWords, ShortBuffer, ShortScratch, LongChain, BadSwap, BadOrder, LongSheet, BadLine, LargeSheet, PastLines, LongBuffer, BadRelease, BadTile, BadColumn, NoRoom, FarNumber, NothingUsable, NoneCommon, BadTicks, OtherCycles, PastStages, ShortBytes, OtherColumn, BadRun}

-- the number that C sees of a refusal
abbrev pub number_of : Refusal → ℕ
number_of BadLength = 1
number_of TooManyWords = 2
number_of ShortBuffer = 3
number_of ShortScratch = 4
number_of LongChain = 5
number_of BadSwap = 6
number_of BadOrder = 7
number_of LongSheet = 9
number_of BadLine = 10
number_of LargeSheet = 11
number_of PastLines = 12
number_of LongBuffer = 13
number_of BadRelease = 14
number_of BadTile = 15
number_of BadColumn = 16
number_of NoRoom = 17
number_of FarNumber = 18
number_of NothingUsable = 19
number_of NoneCommon = 20
number_of BadTicks = 21
number_of OtherCycles = 22
number_of PastStages = 23
number_of ShortBytes = 24
number_of OtherColumn = 25
number_of BadRun = 26

-- the number that C sees of an answer: 0 where the call was accepted
abbrev pub answered : {A : Type 0} → Result A Refusal → ℕ
answered (Ok x) = 0
answered (Err r) = number_of r

-- a refusal that is about no place
abbrev pub unplaced : Refusal → Refused
unplaced r = record { refusal = r; place = 0 }
