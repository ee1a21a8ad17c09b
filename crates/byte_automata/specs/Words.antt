-- The words that the public clauses cite, from one place: a caller's crate takes them from here, and so do this crate's own sources.
pub use Rattle.byte_automata.specs.BandLaws.{band_prunes, band_tells}
pub use Rattle.byte_automata.specs.Bands.{band_after, first_band, is_within, may_be_within}
pub use Rattle.byte_automata.specs.CaseLaws.{lower_prunes, lower_tells}
pub use Rattle.byte_automata.specs.Cases.{lower_after, lower_of}
pub use Rattle.byte_automata.specs.Cells.{next_cell, next_cells}
pub use Rattle.byte_automata.specs.CharacterLaws.{characters_prune, characters_tell}
pub use Rattle.byte_automata.specs.Characters.{are_near, characters_of, first_byte, first_reading}
pub use Rattle.byte_automata.specs.Characters.{next_part, part_before_last, part_before_two}
pub use Rattle.byte_automata.specs.Characters.{read_byte, reading_after, reading_ends}
pub use Rattle.byte_automata.specs.Characters.{reading_may_end}
pub use Rattle.byte_automata.specs.Distances.{byte_cost, distance, is_near}
pub use Rattle.byte_automata.specs.Encodings.{ReadsCharacters, ReadsOnlyUtf8}
pub use Rattle.byte_automata.specs.FrontLaws.{front_prunes, front_tells}
pub use Rattle.byte_automata.specs.Fronts.{front_after, front_may_match, has_front, without_match}
pub use Rattle.byte_automata.specs.PairLaws.{both_prune, both_tell, either_prunes, either_tells}
pub use Rattle.byte_automata.specs.Pairs.{both_after}
pub use Rattle.byte_automata.specs.PatternLaws.{pattern_prunes, pattern_tells}
pub use Rattle.byte_automata.specs.Patterns.{fits, pattern_after, pattern_end, pattern_may}
pub use Rattle.byte_automata.specs.Patterns.{pattern_start}
pub use Rattle.byte_automata.specs.PrefixLaws.{prefix_prunes, prefix_tells}
pub use Rattle.byte_automata.specs.Prefixes.{begins_with, prefix_after, prefix_ended}
pub use Rattle.std.specs.Prelude.{is_none, is_some}
