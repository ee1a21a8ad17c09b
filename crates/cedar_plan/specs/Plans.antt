-- What the steps of a plan say.
use Rattle.std.specs.Prelude.{◌≡◌, ℕ, ◌+◌, ◌==◌, if◌then◌else◌, List, [], ◌∷◌, ◌++◌, length}
use Rattle.std.specs.Prelude.{take, drop, map}
use Rattle.cedar_journal.specs.declared.format.Format.{Format}
use Rattle.cedar_journal.specs.declared.format.Format.TheVariants.{Summed}
use Rattle.cedar_journal.specs.Files.{header_frame}
use Rattle.cedar_journal.specs.Formats.{frame_of, opening, overhead}
use Rattle.cedar_plan.specs.Works.{Work, append_works, cut_to, write_to}
use Rattle.cedar_plan.specs.declared.plan.Plan.{Plan}
use Rattle.cedar_plan.specs.declared.plan.Step.{Step}
use Rattle.cedar_plan.specs.declared.plan.TheConstants.{CUT}

-- the bytes of the header of a new journal, with a closed gate behind it
abbrev pub header : List ℕ
header = 1 ∷ header_frame Summed

-- what a step does whose plan has these bytes
abbrev pub work_of : List ℕ → Step → Work
work_of bytes s = if s.kind == CUT then cut_to s.at else write_to s.at (take s.length (drop s.from bytes))

-- the steps of a plan
abbrev pub steps_of : Plan → List Step
steps_of p = take p.count (p.first ∷ p.second ∷ p.third ∷ p.fourth ∷ [])

-- what a plan does that has these bytes
abbrev pub works_of : List ℕ → Plan → List Work
works_of bytes p = map (work_of bytes) (steps_of p)

-- a plan appends whatever record of this size its bytes begin with, behind records that end at `end`
abbrev pub PlansAppend : Plan → ℕ → ℕ → Type 0
PlansAppend plan size end =
    (f : Format) (payload rest : List ℕ) → size ≡ 1 + overhead f + length payload → works_of ((opening f ∷ frame_of f payload) ++ rest) plan ≡ append_works f end payload
