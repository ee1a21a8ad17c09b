-- The parts of a table as its fields.
use Rattle.std.specs.Prelude.{◌/◌}
use Rattle.cedar_table.specs.declared.parts.Parts.{Parts}
use Rattle.cedar_model.specs.Table.Layouts.{LayoutKind}
use Rattle.cedar_model.specs.Table.TableFields.{Fields}

-- what the parts of a table of this layout are as a record
abbrev pub parts_fields : {A : _} → LayoutKind → Parts A → Fields
parts_fields kind parts = record {
  layout = kind;
  ordered = parts.ordered;
  entries = parts.entries;
  places = record {
    slots = record { nodes = parts.nodes.items; infos = parts.n_infos.items };
    blocks = record {
      records = parts.blocks.items;
      full_head = parts.full_head;
      closed_head = parts.closed_head;
      open_head = parts.open_head;
      active = parts.size / 256;
      max_trial = parts.max_trial;
    };
    reject = parts.reject.items;
  };
}
