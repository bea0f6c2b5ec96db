-- Wrong versions of the calls that move words by a rule told word by word, as tables: tiles, cameras, ticks. The right words of an accepted call stand in its
-- entry, and the test sees that they meet the rule.
use Rattle.lists.proofs.Kit.{◌≡◌, refl, sym, ap, ◌∙◌, List, [], ◌∷◌, ◌++◌, ℕ, suc, ◌+◌, ◌*◌, ◌-◌, ◌/◌, ◌%◌, ◌≤◌, arith, length, get_or, drop, replicate, get_or-drop, upto}
use Rattle.layout.specs.Layout.{volume}
use Rattle.flat.specs.Gcd.{gcd_of, euclid}
use Rattle.refusals.specs.FirstOf.{first_of}
use Rattle.refusals.specs.Conditions.{longest}
use Rattle.refusals.specs.Scratch.{need, cleared}
use Rattle.refusals.proofs.Promise.{accepted, changed}
use Rattle.flat.specs.Turn.{sides}
use Rattle.flat.specs.Passes.{word, row1, column2, row3}
use Rattle.tiles.specs.Tiles.{part, band_place, tile_place, Tiled}
use Rattle.tiles.specs.Promises.{band_need, tile_checks, ToTilesPromise, FromTilesPromise}
use Rattle.tiles.proofs.OneOutcome.{to_tiles_once, from_tiles_once}
use Rattle.cameras.specs.Columns.{past, Removed, Added}
use Rattle.cameras.specs.Promises.{remove_checks, add_checks, RemovePromise, AddPromise}
use Rattle.cameras.proofs.OneOutcome.{remove_once, add_once}
use Rattle.passes.specs.Lines.{skipped}
use Rattle.passes.specs.Plain.{ColumnMoved, RowMoved, first_lines, LineTicked}
use Rattle.passes.specs.Ticks.{Ticked, tick_checks, done_after, TickPromise}
use Rattle.passes.proofs.OneTick.{tick_once}
use Rattle.outcomes.specs.Wrong.{Case, Row, Refuted}
use Rattle.outcomes.proofs.Wrong.{refuted}
use Rattle.outcomes.specs.Wrong.Row.{wrong, gives, late, refuses}
use Rattle.outcomes.proofs.Tested.{Tested, equal, alike, also, hence, where_below, where_most, where_equal, where_other, at_each}
use Rattle.outcomes.proofs.Shapes.{Block, buffer, scratch, Slice, words, value, seen_right, moving, rearranging, replacing}

-- TILES: each word in its place
abbrev tiled : (m n r s : ℕ) (xs ys : List ℕ) → Tested (Tiled m n r s xs ys)
tiled m n r s xs ys =
    hence (also (equal (length ys) (length xs)) (at_each m (λ i. at_each n (λ j. equal (get_or ys (tile_place m n r s i j) 0) (get_or xs (i * n + j) 0)))))
    (λ f. record { same = f.0; placed = λ i j h g. f.1 i h j g })

module _ (m n r s : ℕ) (b sc ys : List ℕ) where
  abbrev pub to_tiles : Case (Block ℕ)
  to_tiles =
      rearranging {checks = tile_checks m n r s b sc}
      (seen_right (λ zs. Tiled m n r s b zs) ys (λ _. tiled m n r s b ys) (λ e zs p q. (to_tiles_once m n r s {s₀ = sc} (accepted e p refl) (accepted e q refl)).1))
      (band_need n r) b sc (ToTilesPromise m n r s b sc) (λ o p. p)

  abbrev pub from_tiles : Case (Block ℕ)
  from_tiles =
      rearranging {checks = tile_checks m n r s b sc}
      (seen_right (λ zs. Tiled m n r s zs b) ys (λ _. tiled m n r s ys b) (λ e zs p q. (from_tiles_once m n r s {s₀ = sc} (accepted e p refl) (accepted e q refl)).1))
      (band_need n r) b sc (FromTilesPromise m n r s b sc) (λ o p. p)

-- the case is the drawing of docs/CALLS.md, 3 by 5 holding 0 to 14 in tiles of 2 by 2, with eleven words of scratch, of which ten are needed
abbrev drawn : List ℕ
drawn = 0 ∷ 1 ∷ 5 ∷ 6 ∷ 2 ∷ 3 ∷ 7 ∷ 8 ∷ 4 ∷ 9 ∷ 10 ∷ 11 ∷ 12 ∷ 13 ∷ 14 ∷ []

abbrev undrawn : List ℕ
undrawn = 0 ∷ 1 ∷ 4 ∷ 5 ∷ 8 ∷ 2 ∷ 3 ∷ 6 ∷ 7 ∷ 9 ∷ 10 ∷ 11 ∷ 12 ∷ 13 ∷ 14 ∷ []

abbrev to : Case (Block ℕ)
to = to_tiles 3 5 2 2 (upto 15) (replicate 11 9) drawn

abbrev from : Case (Block ℕ)
from = from_tiles 3 5 2 2 (upto 15) (replicate 11 9) undrawn

abbrev zeros : List ℕ
zeros = replicate 6 0

abbrev pub tiles : List (Row (Block ℕ))
tiles =
    refuses "to_tiles/refuses-always" to
    ∷ wrong "to_tiles/moves-nothing" to buffer (upto 15)
    -- tiles column by column, and the words of a tile column by column
    ∷ wrong "to_tiles/tiles-column-by-column" to buffer (0 ∷ 1 ∷ 5 ∷ 6 ∷ 10 ∷ 11 ∷ 2 ∷ 3 ∷ 7 ∷ 8 ∷ 12 ∷ 13 ∷ 4 ∷ 9 ∷ 14 ∷ [])
    ∷ wrong "to_tiles/words-column-by-column" to buffer (0 ∷ 5 ∷ 1 ∷ 6 ∷ 2 ∷ 7 ∷ 3 ∷ 8 ∷ 4 ∷ 9 ∷ 10 ∷ 11 ∷ 12 ∷ 13 ∷ 14 ∷ [])
    ∷ wrong "to_tiles/goes-back" to buffer undrawn
    ∷ wrong "to_tiles/scratch-cleared-by-n" to scratch (replicate 5 0 ++ replicate 6 9)
    -- a tile taller than the block asks for r·n words all the same: 2 by 3 with r = 5 asks for 15, and clears 15
    ∷ gives "to_tiles/scratch-by-the-blocks-height" (to_tiles 2 3 5 2 zeros (replicate 6 9) zeros) 0
    ∷ wrong "to_tiles/cleared-by-the-blocks-height" (to_tiles 2 3 5 2 zeros (replicate 15 9) zeros) scratch (replicate 6 0 ++ replicate 9 9)
    -- nothing moves where a tile is as wide as the block: scratch is asked for all the same
    ∷ gives "to_tiles/wide-tile-asks-for-none" (to_tiles 2 3 1 3 zeros [] zeros) 0
    -- scratch one word short
    ∷ wrong "to_tiles/refusal-touches-a-word" (to_tiles 1 2 1 1 (7 ∷ 8 ∷ []) (9 ∷ []) []) buffer (8 ∷ 7 ∷ [])
    ∷ gives "to_tiles/longer-buffer-accepted" (to_tiles 2 3 1 1 (replicate 7 0) (replicate 3 9) []) 0
    ∷ gives "to_tiles/side-65-accepted" (to_tiles 2 3 1 65 zeros (replicate 3 9) []) 0
    ∷ gives "to_tiles/side-64-refused" (to_tiles 2 3 1 64 zeros (replicate 3 9) zeros) 15
    ∷ late "to_tiles/two-before-one" (to_tiles 4097 4096 1 1 [] [] []) 2 1
    ∷ late "to_tiles/fifteen-before-two" (to_tiles 4096 257 0 1 [] [] []) 15 2
    ∷ late "to_tiles/three-before-fifteen" (to_tiles 2 3 0 1 [] [] []) 3 15
    ∷ late "to_tiles/four-before-three" (to_tiles 2 3 1 1 [] [] []) 4 3
    ∷ late "to_tiles/four-before-thirteen" (to_tiles 2 3 1 1 (replicate 7 0) [] []) 4 13
    ∷ refuses "from_tiles/refuses-always" from
    ∷ wrong "from_tiles/moves-nothing" from buffer (upto 15)
    ∷ wrong "from_tiles/goes-there" from buffer drawn
    ∷ wrong "from_tiles/scratch-left" from scratch (replicate 11 9)
    ∷ wrong "from_tiles/scratch-too-far" from scratch (replicate 11 0)
    ∷ gives "from_tiles/scratch-by-the-blocks-height" (from_tiles 2 3 5 2 zeros (replicate 6 9) zeros) 0
    -- scratch one word short
    ∷ wrong "from_tiles/refusal-clears-scratch" (from_tiles 1 2 1 1 (7 ∷ 8 ∷ []) (9 ∷ []) []) scratch (0 ∷ [])
    ∷ late "from_tiles/two-before-one" (from_tiles 4097 4096 1 1 [] [] []) 2 1
    ∷ late "from_tiles/fifteen-before-two" (from_tiles 4096 257 0 1 [] [] []) 15 2
    ∷ late "from_tiles/three-before-fifteen" (from_tiles 2 3 0 1 [] [] []) 3 15
    ∷ late "from_tiles/four-before-three" (from_tiles 2 3 1 1 [] [] []) 4 3
    ∷ late "from_tiles/four-before-thirteen" (from_tiles 2 3 1 1 (replicate 7 0) [] []) 4 13
    ∷ []

pub tiles_refuted : Refuted tiles
unfolding volume tile_place band_place part
tiles_refuted = refuted tiles refl

-- Two wrong places, refuted as such, because most of what they lead to leaves the block: edge tiles as if they were full, where the word of row 1 and column 4
-- would stand on that of row 2 and column 0; and the band's height taken as r at the lower edge, where the last word would stand past the block.
abbrev as_if_full : ℕ → ℕ → ℕ → ℕ → ℕ → ℕ → ℕ
as_if_full m n r s i j = i / r * r * n + (part m r (i / r) * (j / s * s) + (i % r * s + j % s))

abbrev full_height : ℕ → ℕ → ℕ → ℕ → ℕ → ℕ → ℕ
full_height m n r s i j = i / r * r * n + band_place r n s (i % r) j

abbrev pub places : List (Row ℕ)
places =
    gives "to_tiles/edge-tiles-as-if-full" (value (λ p. p) (tile_place 3 5 2 2 1 4)) (as_if_full 3 5 2 2 1 4)
    ∷ gives "to_tiles/two-words-on-one-offset" (value (λ p. p) (tile_place 3 5 2 2 1 4)) (tile_place 3 5 2 2 2 0)
    ∷ gives "to_tiles/height-r-at-the-lower-edge" (value (λ p. p) (tile_place 3 5 2 2 2 4)) (full_height 3 5 2 2 2 4)
    ∷ []

pub places_refuted : Refuted places
unfolding tile_place band_place part
places_refuted = refuted places refl

-- CAMERAS: a column removed, a column added
pub tail_from : (xs ys : List ℕ) (h : ℕ) → drop h ys ≡ drop h xs → (p : ℕ) → h ≤ p → get_or ys p 0 ≡ get_or xs p 0
tail_from xs ys h e p low =
    let far : h + (p - h) ≡ p = omega arith in
    ap (λ (q : ℕ). get_or ys q 0) (sym far) ∙ sym (get_or-drop h ys (p - h) 0) ∙ ap (λ (l : List ℕ). get_or l (p - h) 0) e ∙ get_or-drop h xs (p - h) 0
    ∙ ap (λ (q : ℕ). get_or xs q 0) far

module _ (frames n k : ℕ) (xs ys : List ℕ) where
  abbrev tail : Tested ((p : ℕ) → frames * suc n ≤ p → get_or ys p 0 ≡ get_or xs p 0)
  tail = hence (alike (drop (frames * suc n) ys) (drop (frames * suc n) xs)) (tail_from xs ys (frames * suc n))

  abbrev removed : Tested (Removed frames n k xs ys)
  removed =
      hence
      (also (equal (length ys) (length xs))
      (also (at_each frames (λ i. at_each n (λ j. equal (get_or ys (i * n + j) 0) (get_or xs (i * suc n + past k j) 0))))
      (also (at_each (frames * suc n) (λ p. where_most (frames * n) p (equal (get_or ys p 0) 0))) tail)))
      (λ f. record { same = f.0; closed = λ i j h g. f.1.0 i h j g; freed = λ p h g. f.1.1.0 p g h; tail = f.1.1.1 })

  abbrev added : (column : List ℕ) → Tested (Added frames n k column xs ys)
  added column =
      hence
      (also (equal (length ys) (length xs))
      (also (at_each frames (λ i. at_each n (λ j. equal (get_or ys (i * suc n + past k j) 0) (get_or xs (i * n + j) 0))))
      (also (at_each frames (λ i. equal (get_or ys (i * suc n + k) 0) (get_or column i 0))) tail)))
      (λ f. record { same = f.0; opened = λ i j h g. f.1.0 i h j g; new = f.1.1.0; tail = f.1.1.1 })

abbrev pub remove : ℕ → ℕ → ℕ → List ℕ → List ℕ → Case (Slice ℕ)
remove frames cameras k b ys =
    replacing {checks = remove_checks frames cameras k b}
    (seen_right (Removed frames (cameras - 1) k b) ys (λ _. removed frames (cameras - 1) k b ys) (λ e zs p q. (remove_once frames cameras k (changed e p) (changed e q)).1)) b
    (RemovePromise frames cameras k b) (λ o p. p)

abbrev pub add : ℕ → ℕ → ℕ → List ℕ → List ℕ → List ℕ → Case (Slice ℕ)
add frames cameras k column b ys =
    replacing {checks = add_checks frames cameras k column b}
    (seen_right (Added frames cameras k column b) ys (λ _. added frames cameras k b ys column) (λ e zs p q. (add_once frames cameras k (changed e p) (changed e q)).1)) b
    (AddPromise frames cameras k column b) (λ o p. p)

-- two frames of three cameras, 0 to 5, with two words behind the block: without column 1, and with 6 and 7 added at place 1
abbrev pool : List ℕ
pool = 0 ∷ 1 ∷ 2 ∷ 3 ∷ 4 ∷ 5 ∷ 8 ∷ 9 ∷ []

abbrev less : Case (Slice ℕ)
less = remove 2 3 1 pool (0 ∷ 2 ∷ 3 ∷ 5 ∷ 0 ∷ 0 ∷ 8 ∷ 9 ∷ [])

abbrev more : Case (Slice ℕ)
more = add 2 3 1 (6 ∷ 7 ∷ []) pool (0 ∷ 6 ∷ 1 ∷ 2 ∷ 3 ∷ 7 ∷ 4 ∷ 5 ∷ [])

abbrev pub cameras : List (Row (Slice ℕ))
cameras =
    refuses "remove/refuses-always" less
    ∷ wrong "remove/moves-nothing" less words pool
    ∷ wrong "remove/freed-words-left" less words (0 ∷ 2 ∷ 3 ∷ 5 ∷ 4 ∷ 5 ∷ 8 ∷ 9 ∷ [])
    -- rows closed up from the wrong end, so that words are overwritten before they are read
    ∷ wrong "remove/closed-from-the-wrong-end" less words (0 ∷ 5 ∷ 3 ∷ 5 ∷ 0 ∷ 0 ∷ 8 ∷ 9 ∷ [])
    ∷ wrong "remove/next-column-removed" less words (0 ∷ 1 ∷ 3 ∷ 4 ∷ 0 ∷ 0 ∷ 8 ∷ 9 ∷ [])
    ∷ wrong "remove/tail-word-changed" less words (0 ∷ 2 ∷ 3 ∷ 5 ∷ 0 ∷ 0 ∷ 0 ∷ 9 ∷ [])
    -- column 3 of three cameras
    ∷ wrong "remove/refusal-touches-a-word" (remove 2 3 3 pool []) words (1 ∷ 1 ∷ 2 ∷ 3 ∷ 4 ∷ 5 ∷ 8 ∷ 9 ∷ [])
    ∷ gives "remove/only-camera-removed" (remove 2 1 0 pool []) 0
    ∷ late "remove/two-before-one" (remove 4097 4096 0 [] []) 2 1
    ∷ late "remove/three-before-two" (remove 4096 257 0 [] []) 3 2
    ∷ late "remove/sixteen-before-three" (remove 2 3 3 [] []) 16 3
    ∷ refuses "add/refuses-always" more
    ∷ wrong "add/adds-nothing" more words pool
    ∷ wrong "add/added-one-place-late" more words (0 ∷ 1 ∷ 6 ∷ 2 ∷ 3 ∷ 4 ∷ 7 ∷ 5 ∷ [])
    ∷ wrong "add/opened-from-the-wrong-end" more words (0 ∷ 6 ∷ 1 ∷ 2 ∷ 2 ∷ 7 ∷ 2 ∷ 2 ∷ [])
    -- place 4 beside three cameras
    ∷ wrong "add/refusal-touches-a-word" (add 2 3 4 (6 ∷ 7 ∷ []) pool []) words (6 ∷ 1 ∷ 2 ∷ 3 ∷ 4 ∷ 5 ∷ 8 ∷ 9 ∷ [])
    ∷ gives "add/added-to-4096" (add 2 4096 0 [] [] []) 0
    -- six words for a fourth camera
    ∷ gives "add/room-by-the-size-before" (add 2 3 1 (6 ∷ 7 ∷ []) (replicate 6 0) []) 0
    ∷ late "add/two-before-one" (add 4097 4095 0 [] [] []) 2 1
    ∷ late "add/three-before-two" (add 4096 256 0 [] [] []) 3 2
    ∷ late "add/sixteen-before-three" (add 2 3 4 [] [] []) 16 3
    ∷ late "add/seventeen-before-sixteen" (add 2 3 5 [] (replicate 6 0) []) 17 16
    ∷ late "add/twenty-five-before-seventeen" (add 2 3 1 (6 ∷ 7 ∷ 8 ∷ []) (replicate 6 0) []) 25 17
    ∷ []

pub cameras_refuted : Refuted cameras
unfolding volume
cameras_refuted = refuted cameras refl

-- TICKS: the line that the lines done name has moved as its pass says
module _ (m n : ℕ) (xs ys : List ℕ) where
  abbrev column_moved : (j : ℕ) (source : ℕ → ℕ) → Tested (ColumnMoved m n j source xs ys)
  column_moved j source =
      hence
      (also (equal (length ys) (length xs))
      (also (at_each m (λ i. equal (word n ys i j) (word n xs (source i) j)))
      (at_each m (λ i. at_each n (λ k. where_other k j (equal (word n ys i k) (word n xs i k)))))))
      (λ f. record { same = f.0; receives = f.1.0; stands = λ i k h g. f.1.1 i h k g })

  abbrev row_moved : (i : ℕ) (target : ℕ → ℕ) → Tested (RowMoved m n i target xs ys)
  row_moved i target =
      hence
      (also (equal (length ys) (length xs))
      (also (at_each n (λ j. equal (word n ys i (target j)) (word n xs i j)))
      (at_each m (λ k. at_each n (λ j. where_other k i (equal (word n ys k j) (word n xs k j)))))))
      (λ f. record { same = f.0; goes = f.1.0; stands = λ k j h g. f.1.1 k h j g })

  abbrev ticked : (done : ℕ) → Tested (LineTicked m n done xs ys)
  ticked done =
      let first = first_lines m n in
      hence
      (also (where_below done first (column_moved done (λ i. row1 m n i done)))
      (also (at_each m (λ i. where_equal done (first + i) (row_moved i (λ j. column2 m n i j))))
      (also (at_each n (λ j. where_equal done (first + m + j) (column_moved j (λ i. row3 m n i j)))) (where_most (first + m + n) done (alike ys xs)))))
      (λ f. record { pass_1 = f.0; pass_2 = f.1.0; pass_3 = f.1.1.0; none_left = f.1.1.1 })

-- an accepted tick
pub ticks : {m n done : ℕ} {b s ys : List ℕ} → first_of (tick_checks m n done b s) ≡ 0 → LineTicked m n done b ys
    → TickPromise m n done b s (record { number = 0; done = done_after m n done }) ys (cleared (need (sides m n)) s)
ticks e l = record { block = accepted e l refl; given = λ _. refl; refusal = λ k. absurd (k refl) }

abbrev pub tick : ℕ → ℕ → ℕ → List ℕ → List ℕ → List ℕ → Case (Block Ticked)
tick m n done b s ys =
    moving (λ t. t.number) (λ _. record { number = 0; done = done_after m n done }) (λ k. record { number = k; done = done }) {checks = tick_checks m n done b s}
    (seen_right (LineTicked m n done b) ys (λ _. ticked m n b ys done) (λ e zs p q. (tick_once {s₀ = s} (ticks e p) (ticks e q)).1)) (need (sides m n)) b s
    (λ o. TickPromise m n done b s o.answer o.buffer o.scratch)
    (λ o p. record {
      block = p.block;
      gives = λ z i. record { number = z i; done = p.given z i };
      refuses = λ k i. record { number = o.answer.number; done = p.refusal k i };
    })

abbrev counted : Block Ticked → List ℕ
counted o = o.answer.done ∷ []

-- 2 by 2, whose sides share a factor: six lines, two columns, two rows, two columns. From 0 1 2 3 the passes leave 0 3 2 1, then 0 3 1 2, then 0 2 1 3. The
-- columns and rows numbered 0 stand still. Of three words of scratch two are needed.
abbrev nines : List ℕ
nines = replicate 3 9

abbrev second : Case (Block Ticked)
second = tick 2 2 1 (0 ∷ 1 ∷ 2 ∷ 3 ∷ []) nines (0 ∷ 3 ∷ 2 ∷ 1 ∷ [])

abbrev over : Case (Block Ticked)
over = tick 2 2 6 (0 ∷ 2 ∷ 1 ∷ 3 ∷ []) nines (0 ∷ 2 ∷ 1 ∷ 3 ∷ [])

abbrev pub lines : List (Row (Block Ticked))
lines =
    refuses "tick/refuses-always" second
    ∷ wrong "tick/moves-nothing" second buffer (0 ∷ 1 ∷ 2 ∷ 3 ∷ [])
    -- both columns of pass 3 at line 4
    ∷ wrong "tick/two-lines-a-call" (tick 2 2 4 (0 ∷ 3 ∷ 1 ∷ 2 ∷ []) nines (0 ∷ 3 ∷ 1 ∷ 2 ∷ [])) buffer (0 ∷ 2 ∷ 1 ∷ 3 ∷ [])
    ∷ wrong "tick/two-lines-counted" second counted (3 ∷ [])
    -- line 3 is row 1, and not column 1
    ∷ wrong "tick/pass-3-before-pass-2" (tick 2 2 3 (0 ∷ 3 ∷ 2 ∷ 1 ∷ []) nines (0 ∷ 3 ∷ 1 ∷ 2 ∷ [])) buffer (0 ∷ 1 ∷ 2 ∷ 3 ∷ [])
    -- where no line is left
    ∷ wrong "tick/moved-at-the-count" over buffer (0 ∷ 3 ∷ 1 ∷ 2 ∷ [])
    ∷ wrong "tick/counted-past-the-count" over counted (7 ∷ [])
    ∷ wrong "tick/scratch-left" over scratch nines
    ∷ gives "tick/twelve-at-the-count" over 12
    ∷ wrong "tick/advanced-on-a-refusal" (tick 0 2 1 [] nines []) counted (2 ∷ [])
    ∷ wrong "tick/begun-again-on-a-refusal" (tick 0 2 1 [] nines []) counted (0 ∷ [])
    ∷ wrong "tick/refusal-touches-a-word" (tick 2 2 7 (0 ∷ 1 ∷ 2 ∷ 3 ∷ []) nines []) buffer (1 ∷ 1 ∷ 2 ∷ 3 ∷ [])
    ∷ gives "tick/past-the-count-accepted" (tick 2 2 7 (0 ∷ 1 ∷ 2 ∷ 3 ∷ []) nines []) 0
    ∷ late "tick/two-before-one" (tick 4097 4096 0 [] [] []) 2 1
    ∷ late "tick/three-before-two" (tick 4096 257 0 [] [] []) 3 2
    ∷ late "tick/four-before-three" (tick 2 2 0 [] [] []) 4 3
    ∷ late "tick/four-before-thirteen" (tick 2 2 0 (upto 5) [] []) 4 13
    ∷ late "tick/thirteen-before-one" (tick 0 2 0 (7 ∷ []) [] []) 13 1
    ∷ late "tick/four-before-one" (tick 0 2 0 [] [] []) 4 1
    ∷ late "tick/twelve-before-four" (tick 2 2 7 (0 ∷ 1 ∷ 2 ∷ 3 ∷ []) [] []) 12 4
    ∷ late "tick/twelve-before-thirteen" (tick 2 2 7 (upto 5) nines []) 12 13
    ∷ late "tick/twelve-before-three" (tick 2 2 7 [] nines []) 12 3
    ∷ late "tick/twelve-before-one" (tick 0 2 7 [] nines []) 12 1
    ∷ []

pub lines_refuted : Refuted lines
unfolding volume longest skipped gcd_of euclid row1 column2 row3
lines_refuted = refuted lines refl
