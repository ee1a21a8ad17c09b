-- Why a run of the program ended early, and what is reported of it.
use Rattle.std.specs.Prelude.{◌≡◌, ◌⊎◌, ◌++◌, ℕ, Bool, true, is_some, List, Option, codes}
use Rattle.cedarwood.specs.WatchedDevice.{has_failed}
use Rattle.cedarwood.specs.Words.{Watched}
use Rattle.device_lines.specs.Written.{Writes}
use Rattle.cedar_cli.specs.Options.{Request}
use Rattle.cedar_cli.specs.declared.program.Fault.{Fault}
use Rattle.cedar_cli.specs.declared.program.Fault.TheVariants.{Load, Save, Script}
use Rattle.cedar_cli.specs.declared.script.ScriptError.{ScriptError}
use Rattle.cedar_cli.specs.declared.script.ScriptError.TheVariants.{Memory, Read, SlotLimit, Write}

-- the name of the program, if it is given no other
abbrev pub own_name : List ℕ
own_name = codes "cedar"

-- the line that says how a program of this name is called
abbrev pub usage_line : List ℕ → List ℕ
usage_line name = codes "usage: " ++ (name ++ codes " [--unordered] [--load PATH] [--save PATH] [--v1-0]\n")

-- what follows the program's name in the line that reports a fault of a script
abbrev pub fault_text : ScriptError → List ℕ
fault_text Read = codes ": read fault\n"
fault_text Write = codes ": write fault\n"
fault_text Memory = codes ": out of memory\n"
fault_text SlotLimit = codes ": slot limit\n"

-- what a fault of a script shows of its devices. After `Read` the reader has failed, after `Write` the writer. After
-- want of memory or slots the reader has failed exactly if it had before the run
abbrev pub ShowsCause : Bool → Bool → Bool → ScriptError → Type 0
ShowsCause unread read written Read = read ≡ true
ShowsCause unread read written Write = written ≡ true
ShowsCause unread read written fault = read ≡ unread

-- a run ended early, by a fault of its script that shows its cause, or by that of a load or a save that was asked for
abbrev pub EndsBy : Request → Bool → Bool → Bool → Fault → Type 0
EndsBy asked unread read written (Script fault) = ShowsCause unread read written fault
EndsBy asked unread read written (Load e) = is_some asked.load ≡ true
EndsBy asked unread read written (Save e) = is_some asked.save ≡ true

-- a line was written, or a call of the writer failed
abbrev pub WritesOrFailed : {E : Type 0} → (E → Option (List ℕ)) → Watched E → Watched E → List ℕ → Type 0
WritesOrFailed contents before after line = Writes contents before after line ⊎ (has_failed after ≡ true)

-- a fault of a script is reported by its line, which begins with this name, and status 1, and one of a load or a save
-- by status 3
abbrev pub IsReported : {E : Type 0} → List ℕ → (E → Option (List ℕ)) → Watched E → Watched E → Fault → ℕ → Type 0
IsReported name contents before after (Script fault) status = (status ≡ 1) × WritesOrFailed contents before after (name ++ fault_text fault)
IsReported name contents before after (Load e) status = status ≡ 3
IsReported name contents before after (Save e) status = status ≡ 3

-- the line of some fault of a script was written, which begins with this name and shows its cause
abbrev pub TellsCause : {E : Type 0} → List ℕ → (E → Option (List ℕ)) → Watched E → Watched E → Bool → Bool → Bool → Type 0
TellsCause name contents before after unread read written =
    (fault : ScriptError) × ShowsCause unread read written fault × WritesOrFailed contents before after (name ++ fault_text fault)

-- a load or a save was asked for
abbrev pub AsksForFile : Request → Type 0
AsksForFile asked = (is_some asked.load ≡ true) ⊎ (is_some asked.save ≡ true)
