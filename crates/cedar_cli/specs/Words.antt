-- The words of clauses, from one place.
pub use Rattle.cedar_cli.specs.Blocks.{GrowsBefore, GrowsWithin}
pub use Rattle.cedar_cli.specs.Command.{bad_line_of, bad_line_text, form_fault, is_space, key_of}
pub use Rattle.cedar_cli.specs.Command.{lone_key_fault, order_of, pair_fault, with_key}
pub use Rattle.cedar_cli.specs.Command.{with_key_and_value}
pub use Rattle.cedar_cli.specs.Devices.{held_by, IsToldOn, OnlyFlushFails, OnWriter}
pub use Rattle.cedar_cli.specs.Lines.{HasLineRoom, HasNoNewline, is_newline}
pub use Rattle.cedar_cli.specs.Loads.{LacksWithin}
pub use Rattle.cedar_cli.specs.Options.{asked_limit, BeginsWith, is_excluded}
pub use Rattle.cedar_cli.specs.Options.{limit_of, limit_or_default, Request, request_besides}
pub use Rattle.cedar_cli.specs.Options.{request_in, request_of, words}
pub use Rattle.cedar_cli.specs.Reports.{Continues, TellsInput, TellsText}
pub use Rattle.cedar_cli.specs.Runs.{AnswersAll, AnswersUpTo, EndsInput, FinishesAll}
pub use Rattle.cedar_cli.specs.Runs.{FinishesComing, OnAsked, OnBegun, StopsOn}
pub use Rattle.cedar_cli.specs.Script.{AdvancesBy, Answers, AnswersOrFails}
pub use Rattle.cedar_cli.specs.Script.{colon_field, figures_text}
pub use Rattle.cedar_cli.specs.Script.{found_text, hex_entry_line, hex_entry_lines, IsPairFault}
pub use Rattle.cedar_cli.specs.Script.{IsTakenBack, LineMayLackMemory, MayLackMemory}
pub use Rattle.cedar_cli.specs.Script.{number_text, pair_text, pairs_text, put_text, spaced_texts}
pub use Rattle.cedar_cli.specs.Script.{token_text, tokens_text}
pub use Rattle.cedar_cli.specs.Statuses.{AsksForFile, EndsBy, fault_text, IsReported, own_name}
pub use Rattle.cedar_cli.specs.Statuses.{ShowsCause, TellsCause, usage_line, WritesOrFailed}
pub use Rattle.cedar_cli.specs.View.{view_of}
pub use Rattle.cedar_cli.specs.declared.command.BadLine.{BadLine}
pub use Rattle.cedar_cli.specs.declared.script.ScriptError.TheVariants.{Write as Unwritten}
pub use Rattle.cedarwood.specs.Layouts.{layout_byte}
pub use Rattle.cedarwood.specs.Words.{IsSlotLimit}
pub use Rattle.cedarwood.specs.Tree.{number_at}
pub use Rattle.cedarwood.specs.Dictionary.{Grows}
pub use Rattle.cedarwood.specs.WatchedDevice.{has_failed}
pub use Rattle.device_lines.specs.Written.{BreaksOff, Writes, WritesBytes}
pub use Rattle.device_lines.specs.Written.{WritesOrFails}
pub use Rattle.hex.specs.Hex.{encode_lower}
pub use Rattle.std.specs.List.{after_first, before_first}
pub use Rattle.std.specs.Result.{result_err, result_ok}
