-- That what a run saves loads again.
use Rattle.std.specs.Prelude.{◌≡◌, ℕ, List, [], ◌∷◌, ◌++◌, slice_get, Option, Some, None, Ok}
use Rattle.std.specs.Borrow.{Bor}
use Rattle.cedarwood.specs.Layouts.{LayoutKind}
use Rattle.cedarwood.specs.Dictionary.{Dictionary}
use Rattle.cedar_calls.specs.Runs.{IsStep}
use Rattle.cedar_calls.specs.declared.call.Call.TheVariants as call
use Rattle.cedar_replies.specs.declared.question.Question.{Question}
use Rattle.cedar_calls.specs.declared.answer.Answer.TheVariants as answer
use Rattle.cedar_replies.specs.declared.answer.Reply.{Reply}
use Rattle.cedar_replies.specs.declared.answer.Reply.TheVariants as reply

-- the bytes of the file that a reply has
abbrev pub bytes_saved : {A : Type 0} → Reply A → Option (List ℕ)
bytes_saved (reply.Saved (Ok file)) = Some file.items
bytes_saved _ = None

-- what was saved of a dictionary loads as one with its tree and its order, in any step that returns `Ok`
abbrev pub SavesLoadAgain : {A : Type 0} → Reply A → Type 0
SavesLoadAgain {A} r =
    (layout : LayoutKind) (slots limit : ℕ) (before kept middle after : List Dictionary) (index : ℕ) (d : Dictionary) (q : Question) (bytes : Bor (List ℕ))
    → slice_get before index ≡ Some d → IsStep layout slots before (call.Ask index q) (answer.Replied r) kept → bytes_saved r ≡ Some bytes.now
    → IsStep {A = A} layout slots middle (call.Load bytes limit) (answer.Loaded (Ok tt)) after
    → (e : Dictionary) × (after ≡ middle ++ e ∷ []) × (e.state ≡ d.state)
