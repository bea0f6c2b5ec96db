-- A refusal is told by its number, which is never 0, and an answer by the number that C sees of it. By a table of the numbers.
use Rattle.lists.proofs.Kit.{◌≡◌, refl, sym, ap, ◌∙◌, List, [], ◌∷◌, ℕ, ◌<◌, get_or, T, ltb, ltb→lt, arith}
use Rattle.std.specs.Prelude.{Result, Ok, Err, IsOk}
use Rattle.refusals.specs.declared.Refusal.{Refusal}
use Rattle.refusals.specs.declared.Refusal.TheVariants.{BadLength, TooManyWords, ShortBuffer, ShortScratch, LongChain, BadSwap, BadOrder, LongSheet, BadLine, LargeSheet, PastLines, LongBuffer, BadRelease, BadTile, BadColumn, NoRoom, FarNumber, NothingUsable, NoneCommon, BadTicks, OtherCycles, PastStages, ShortBytes, OtherColumn, BadRun}
use Rattle.refusals.specs.Refusal.{number_of, answered}

-- the refusals by their numbers; no refusal has number 0 or 8
abbrev table : List Refusal
table =
    BadRun ∷ BadLength ∷ TooManyWords ∷ ShortBuffer ∷ ShortScratch ∷
    LongChain ∷ BadSwap ∷ BadOrder ∷ BadRun ∷ LongSheet ∷
    BadLine ∷ LargeSheet ∷ PastLines ∷ LongBuffer ∷ BadRelease ∷
    BadTile ∷ BadColumn ∷ NoRoom ∷ FarNumber ∷ NothingUsable ∷
    NoneCommon ∷ BadTicks ∷ OtherCycles ∷ PastStages ∷ ShortBytes ∷
    OtherColumn ∷ BadRun ∷ []

abbrev numbered : ℕ → Refusal
numbered k = get_or table k BadRun

numbered_back : (r : Refusal) → numbered (number_of r) ≡ r
numbered_back BadLength = refl
numbered_back TooManyWords = refl
numbered_back ShortBuffer = refl
numbered_back ShortScratch = refl
numbered_back LongChain = refl
numbered_back BadSwap = refl
numbered_back BadOrder = refl
numbered_back LongSheet = refl
numbered_back BadLine = refl
numbered_back LargeSheet = refl
numbered_back PastLines = refl
numbered_back LongBuffer = refl
numbered_back BadRelease = refl
numbered_back BadTile = refl
numbered_back BadColumn = refl
numbered_back NoRoom = refl
numbered_back FarNumber = refl
numbered_back NothingUsable = refl
numbered_back NoneCommon = refl
numbered_back BadTicks = refl
numbered_back OtherCycles = refl
numbered_back PastStages = refl
numbered_back ShortBytes = refl
numbered_back OtherColumn = refl
numbered_back BadRun = refl

pub one_refusal : (r s : Refusal) → number_of r ≡ number_of s → r ≡ s
one_refusal r s e = sym (numbered_back r) ∙ ap numbered e ∙ numbered_back s

positive : (r : Refusal) → T (ltb 0 (number_of r))
positive BadLength = tt
positive TooManyWords = tt
positive ShortBuffer = tt
positive ShortScratch = tt
positive LongChain = tt
positive BadSwap = tt
positive BadOrder = tt
positive LongSheet = tt
positive BadLine = tt
positive LargeSheet = tt
positive PastLines = tt
positive LongBuffer = tt
positive BadRelease = tt
positive BadTile = tt
positive BadColumn = tt
positive NoRoom = tt
positive FarNumber = tt
positive NothingUsable = tt
positive NoneCommon = tt
positive BadTicks = tt
positive OtherCycles = tt
positive PastStages = tt
positive ShortBytes = tt
positive OtherColumn = tt
positive BadRun = tt

-- a refusal's number is not 0
pub refuses : (r : Refusal) → number_of r ≡ 0 → ⊥
refuses r e = let some : 0 < number_of r = ltb→lt 0 (number_of r) (positive r) in absurd (omega arith)

-- an answer is told by its number and, where the call was accepted, by what it hands out
pub one_answer : {A : Type 0} (x y : Result A Refusal) → answered x ≡ answered y → ((a b : A) → x ≡ Ok a → y ≡ Ok b → a ≡ b) → x ≡ y
one_answer (Ok a) (Ok b) e f = ap Ok (f a b refl refl)
one_answer (Ok a) (Err s) e f = absurd (refuses s (sym e))
one_answer (Err r) (Ok b) e f = absurd (refuses r e)
one_answer (Err r) (Err s) e f = ap Err (one_refusal r s e)

-- a bare answer is told by its number
pub one_bare : (x y : Result (Unit {0}) Refusal) → answered x ≡ answered y → x ≡ y
one_bare x y e = one_answer x y e (λ a b _ _. refl)

-- an answer with the number 0 is not a refusal
pub accepted_ok : {A : Type 0} (x : Result A Refusal) → answered x ≡ 0 → IsOk x
accepted_ok (Ok a) e = refl
accepted_ok (Err r) e = absurd (refuses r e)
