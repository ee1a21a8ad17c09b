-- What a whole run writes and leaves, by what its devices report.
use Rattle.std.specs.Prelude.{List, ℕ, Option}
use Rattle.cedarwood.specs.Words.{Watched}
use Rattle.cedarwood.specs.Layouts.{LayoutKind}
use Rattle.cedarwood.specs.Dictionary.{Dictionary}
use Rattle.cedar_cli.specs.declared.script.ScriptError.{ScriptError}
use Rattle.cedar_cli.specs.Devices.{OnComing, OnInput, OnWriter}
use Rattle.device_lines.specs.Written.{Writes, WritesUpTo}
use Rattle.cedar_cli.specs.Lines.{lines_of}
use Rattle.cedar_cli.specs.Options.{asked_layout, BeginsWith, Request}
use Rattle.cedar_cli.specs.Script.{AdvancesBy, answers, EndsScript, FinishesLines, StopsIn}
use Rattle.cedar_cli.specs.View.{View}

-- P holds of what a run begins with that was asked for over this layout
abbrev pub OnBegun : LayoutKind → Request → (View → Type 0) → Type 0
OnBegun layout asked P = (begun : View) × BeginsWith layout asked begun × P begun

-- the answers to all lines of the input were written
abbrev pub AnswersAll : {R W : Type 0} → (R → Option (List ℕ)) → Watched R → (W → Option (List ℕ)) → Watched W → Watched W → View → Type 0
AnswersAll remaining reader contents before after begun = OnInput remaining reader (λ input. Writes contents before after (answers begun (lines_of input)))

-- the answers to the first lines of the input were written, or to all
abbrev pub AnswersUpTo : {R W : Type 0} → (R → Option (List ℕ)) → Watched R → (W → Option (List ℕ)) → Watched W → Watched W → View → Type 0
AnswersUpTo remaining reader contents before after begun = OnInput remaining reader (λ input. WritesUpTo contents before after (answers begun (lines_of input)))

-- P holds of what was asked for, in its layout
abbrev pub OnAsked : Request → (View → Type 0) → Type 0
OnAsked asked P = OnBegun (asked_layout asked) asked P

-- ---- of a dictionary of a layout, from one state to another

-- all lines of the input are finished
abbrev pub FinishesAll : {R W : Type 0} → (R → Option (List ℕ)) → Watched R → (W → Option (List ℕ)) → Watched W → Watched W → LayoutKind → Dictionary → Dictionary → Type 0
FinishesAll remaining reader contents before after layout d e = OnInput remaining reader (λ input. OnWriter contents before after (FinishesLines layout d e (lines_of input)))

-- a fault ended the run before its input did
abbrev pub EndsInput : {R W : Type 0} → (R → Option (List ℕ)) → Watched R → (W → Option (List ℕ)) → Watched W → Watched W → ℕ → LayoutKind → Dictionary → Dictionary → ScriptError → Type 0
EndsInput remaining reader contents before after slots layout d e fault = OnInput remaining reader (λ input. OnWriter contents before after (EndsScript slots layout d e fault input))

-- the lines that came whole are finished
abbrev pub FinishesComing : {R W : Type 0} → (R → Option (List ℕ)) → Watched R → Watched R → (W → Option (List ℕ)) → Watched W → Watched W → LayoutKind → Dictionary → Dictionary → Type 0
FinishesComing remaining reader read contents before after layout d e =
    OnComing remaining reader read (λ came line. OnWriter contents before after (AdvancesBy layout d e came line))

-- a fault stopped the run in the text that came
abbrev pub StopsOn : {W : Type 0} → (W → Option (List ℕ)) → Watched W → Watched W → ℕ → LayoutKind → Dictionary → Dictionary → List ℕ → ScriptError → Type 0
StopsOn contents before after slots layout d e text fault = OnWriter contents before after (StopsIn slots layout d e fault text)
