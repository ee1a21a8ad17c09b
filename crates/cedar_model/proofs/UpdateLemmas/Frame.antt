-- Steps that keep a table's size and settings, one after the other.
use Rattle.std.proofs.Common.{refl, ◌∙◌}
use Rattle.cedar_model.specs.Table.TableFields.{Fields, SameFrame, SameSettings}

pub settings_then : (one two three : Fields) → SameSettings one two → SameSettings two three → SameSettings one three
settings_then one two three a b = record { ordered = b.ordered ∙ a.ordered; entries = b.entries ∙ a.entries; max_trial = b.max_trial ∙ a.max_trial }

pub frame_same : (T : Fields) → SameFrame T T
frame_same T = record { size = refl; capacity = refl; settings = record { ordered = refl; entries = refl; max_trial = refl } }

pub frame_then : (one two three : Fields) → SameFrame one two → SameFrame two three → SameFrame one three
frame_then one two three a b = record { size = b.size ∙ a.size; capacity = b.capacity ∙ a.capacity; settings = settings_then one two three a.settings b.settings }
