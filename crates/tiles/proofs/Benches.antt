-- The benches hold: one computed test over the table, turned into the rule at each row.
use Rattle.lists.proofs.Kit.{Bool, ◌*◌, same, upto, at_entry, same→eq}
use Rattle.tiles.specs.Tiles.{part}
use Rattle.tiles.specs.Bands.{joined, parts, tile_words, band_words, tiles_of}
use Rattle.tiles.specs.Benches.{Row, benches, Benches}

holds : Row → Bool
holds b = same (tiles_of b.m b.n b.r b.s (upto (b.m * b.n))) b.says

pub benches_hold : Benches
unfolding holds joined parts tile_words band_words tiles_of part
benches_hold b k = same→eq (tiles_of b.m b.n b.r b.s (upto (b.m * b.n))) b.says (at_entry holds benches tt b k)
