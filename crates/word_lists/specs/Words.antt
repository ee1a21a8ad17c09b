-- The words of clauses, from one place.
pub use Rattle.cedarwood.specs.Tree.{number_at}
pub use Rattle.cedar_words.specs.Words.{keywords_in, Spot, spots_from, Token}
pub use Rattle.cedarwood.specs.Words.{after_put, all_stored, entries_of, entries_with, fault}
pub use Rattle.cedarwood.specs.Words.{IsLimit, new_state, State}
pub use Rattle.cedarwood.specs.WatchedDevice.{has_failed}
pub use Rattle.device_lines.specs.Written.{BreaksOff, Writes, WritesBytes}
pub use Rattle.device_lines.specs.Written.{WritesUpTo}
pub use Rattle.hex.specs.Hex.{decode_sized}
pub use Rattle.std.specs.Io.BufRead.{drop_through, take_through}
pub use Rattle.std.specs.Fmt.{signed_decimal}
pub use Rattle.std.specs.List.{before_first, position}
pub use Rattle.std.specs.Str.{is_utf8}
pub use Rattle.word_lists.specs.declared.lines.StoreError.TheVariants.{Memory}
pub use Rattle.word_lists.specs.declared.write.ListError.TheVariants.{Write as Unwritten}
pub use Rattle.word_lists.specs.Costs.{cost_of_line, cost_of_number, costs_of_lines}
pub use Rattle.word_lists.specs.Costs.{IsFirstWithoutCost}
pub use Rattle.word_lists.specs.Devices.{LinesOrFails}
pub use Rattle.word_lists.specs.Lines.{byte_text, count_line, entries_missing, entry_line}
pub use Rattle.word_lists.specs.Lines.{entry_lines}
pub use Rattle.word_lists.specs.Lines.{escape, found_line, holds_entry, is_plain, missing_lines}
pub use Rattle.word_lists.specs.Lines.{signed_line, word_text}
pub use Rattle.word_lists.specs.Reading.{first_read, named_of, read_as}
pub use Rattle.word_lists.specs.Stored.{absent_of, Adds, AddsLine, ErasesFirstLines}
pub use Rattle.word_lists.specs.Stored.{figures_of, is_tab, IsWant, line_absent, line_erased}
pub use Rattle.word_lists.specs.Stored.{line_refusal, line_stored, line_told, lines_absent}
pub use Rattle.word_lists.specs.Stored.{lines_erased, lines_in, lines_stored, list_told}
pub use Rattle.word_lists.specs.Stored.{number_with, OnKnown, own_line_number, pairs_stored}
pub use Rattle.word_lists.specs.Stored.{stored_by, StoresFirst, StoresFirstLines, TakesNext, Told}
pub use Rattle.word_lists.specs.Stored.{told_by, told_one, want_of}
pub use Rattle.word_lists.specs.Texts.{body_of, characters, characters_begun, continues_character}
pub use Rattle.word_lists.specs.Texts.{ending_of, ends_with, front_entry, fronts_of, greedy_line}
pub use Rattle.word_lists.specs.Texts.{is_parted, keyword_lines, line_at, mark_text}
pub use Rattle.word_lists.specs.Texts.{marked_line, marked_token, match_lines, OnBestLine}
pub use Rattle.word_lists.specs.Texts.{OnCheapestLine}
pub use Rattle.word_lists.specs.Texts.{parted_token, parting, replaced_line}
pub use Rattle.word_lists.specs.Texts.{replaced_token, replacement, spot_line, spot_lines}
pub use Rattle.word_lists.specs.Texts.{style_text, styled_line, styled_text, tab_field, text_part}
pub use Rattle.word_lists.specs.Texts.{without_last}
