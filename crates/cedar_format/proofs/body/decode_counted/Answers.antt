use Rattle.std.proofs.Common.{Bool, sym, ◌/◌, ◌≡◌, ◌∙◌, append-nil, ap, inl, refl, subst}
use Rattle.std.proofs.lemmas.Result.{err_from_is_err_and}
use Rattle.std.proofs.KnownBytes.{Consumes-trans}
use Rattle.std.specs.Io.KnownBytes.{Consumes}
use Rattle.cedar_format.specs.Format.{body_len, filled_list, listed_bytes, listed_in, IsFile, IsHeader, Passes}
use Rattle.cedar_format.specs.Records.{body_bytes}
use Rattle.cedar_slots.specs.Blocks.{blank_block}
use Rattle.cedar_slots.specs.Slots.{blank_info, blank_node}
use Rattle.cedar_format.proofs.FilledFile.{filled_file, listed_again}
use Rattle.cedar_format.proofs.Asking.{asks_within, passes}
use Rattle.cedar_format.proofs.Decoding.{long_file, misses_unless, no_memory, refuses, short_body, trails_unless, whole_file, wrong_header, wrong_sizes}
use Rattle.cedar_format.proofs.Lacking.{missed, missed_io, no_lack, table_lacks, table_no_io, trailed, trailed_io}
use Rattle.cedar_format.proofs.body.decode_counted.Goals as goal

pub returns-in_err-header-clause-decodes : goal.returns-in_err-header-clause-decodes
returns-in_err-header-clause-decodes g c =
    let told = c.in_err-header.ensures in
    let p = err_from_is_err_and c.from_residual.result c.from_residual.ensures.1 in
    rw (p.1, p.2) (refuses c.args.layout c.args.slots c.args.memory_limit _ _ _ _ _ (wrong_header c.args.layout c.args.slots c.args.memory_limit _ _ _ told.refusal) (λ no_io. wrong_header c.args.layout c.args.slots c.args.memory_limit _ _ _ (told.decided no_io)) told.io (no_lack _ _ told.room))

pub returns-in_err-check_sizes-clause-decodes : goal.returns-in_err-check_sizes-clause-decodes
returns-in_err-check_sizes-clause-decodes g c =
    let read = c.in_ok-header.ensures.bytes in
    let wrong = c.in_err-check_sizes.ensures in
    let p = err_from_is_err_and c.from_residual-in_err-check_sizes.result c.from_residual-in_err-check_sizes.ensures.1 in
    let answer = λ (flag : Bool). wrong_sizes c.args.layout c.args.slots c.args.memory_limit read.0 _ read.2 _ _ flag _ read.1 wrong.refusal in
    rw (p.1, p.2) (refuses c.args.layout c.args.slots c.args.memory_limit _ _ _ _ _ (answer _) (λ no_io. answer _) (λ io. absurd (wrong.io io)) (no_lack _ _ wrong.room))

pub returns-in_err-empty-clause-decodes : goal.returns-in_err-empty-clause-decodes
returns-in_err-empty-clause-decodes g c =
    let read = c.in_ok-header.ensures.bytes in
    let sizes = sym c.in_ok-check_sizes.ensures.refusal in
    let lacks = c.in_err-empty.ensures.err in
    let p = err_from_is_err_and c.from_residual-in_err-empty.result c.from_residual-in_err-empty.ensures.1 in
    let answer = λ (flag : Bool). no_memory c.args.layout c.args.slots c.args.memory_limit read.0 _ read.2 _ _ flag _ read.1 sizes lacks in
    let header = passes c.args.layout c.args.slots c.args.memory_limit read.0 _ _ _ read.2 sizes read.1 in
    rw (p.1, p.2) (refuses c.args.layout c.args.slots c.args.memory_limit _ _ _ _ _ (answer _) (λ no_io. answer _) (λ io. absurd (table_no_io c.in_ok-header.header _ lacks io)) (table_lacks _ c.in_ok-header.header _ header lacks))

pub returns-in_err-lists-clause-decodes : goal.returns-in_err-lists-clause-decodes
returns-in_err-lists-clause-decodes g c =
    let read = c.in_ok-header.ensures.bytes in
    let misses = c.in_err-lists.ensures.misses in
    let p = err_from_is_err_and c.from_residual-in_err-lists.result c.from_residual-in_err-lists.ensures.1 in
    rw (p.1, p.2) (refuses c.args.layout c.args.slots c.args.memory_limit _ _ _ _ _ (short_body c.args.layout c.args.slots c.args.memory_limit read.0 _ read.2 _ _ _ _ c.in_ok-empty.empty.header c.in_ok-empty.ensures.header read.1 (sym c.in_ok-check_sizes.ensures.refusal) misses)
    (λ no_io. (short_body c.args.layout c.args.slots c.args.memory_limit read.0 _ read.2 _ _ _ _ c.in_ok-empty.empty.header c.in_ok-empty.ensures.header read.1 (sym c.in_ok-check_sizes.ensures.refusal) (misses_unless _ _ _ _ _ misses c.in_err-lists.ensures.short no_io)))
    (missed_io _ _ _ _ misses) (missed _ _ _ _ _ misses))

pub returns-in_err-read_end-clause-decodes : goal.returns-in_err-read_end-clause-decodes
returns-in_err-read_end-clause-decodes g c =
    let read = c.in_ok-header.ensures.bytes in
    let trails = c.in_err-read_end.ensures.trailing in
    let p = err_from_is_err_and c.from_residual-in_err-read_end.result c.from_residual-in_err-read_end.ensures.1 in
    rw (p.1, p.2) (refuses c.args.layout c.args.slots c.args.memory_limit _ _ _ _ _ (long_file c.args.layout c.args.slots c.args.memory_limit read.0 _ read.2 _ _ _ _ _ _ read.1 c.in_ok-lists.ensures.bytes (c.in_ok-lists.ensures.len ∙ ap body_len c.in_ok-empty.ensures.header) (sym c.in_ok-check_sizes.ensures.refusal) trails)
    (λ no_io. (long_file c.args.layout c.args.slots c.args.memory_limit read.0 _ read.2 _ _ _ _ _ _ read.1 c.in_ok-lists.ensures.bytes (c.in_ok-lists.ensures.len ∙ ap body_len c.in_ok-empty.ensures.header) (sym c.in_ok-check_sizes.ensures.refusal) (trails_unless _ _ _ _ trails no_io)))
    (trailed_io _ _ _ trails) (trailed _ _ _ _ trails))

pub returns-clause-decodes : goal.returns-clause-decodes
returns-clause-decodes g c =
    let read = c.in_ok-header.ensures.bytes in
    let sizes = sym c.in_ok-check_sizes.ensures.refusal in
    let lists = c.in_ok-lists.lists in
    let tables = c.fill_tables.result in
    let read_lists = c.in_ok-lists.ensures in
    let filled_lists = c.fill_tables.ensures in
    let of_empty : c.in_ok-empty.empty.header ≡ c.in_ok-header.header = c.in_ok-empty.ensures.header in
    let of_lists : lists.header ≡ c.in_ok-header.header = read_lists.header ∙ of_empty in
    let of_tables : tables.header ≡ c.in_ok-header.header = filled_lists.header ∙ of_lists in
    let body = Consumes-trans _ _ _ _ _ read_lists.bytes c.in_ok-read_end.ensures.bytes in
    let nodes_len = read_lists.nodes.0 ∙ ap (λ h. h.array_len) of_empty in
    let infos_len = read_lists.n_infos.0 ∙ ap (λ h. h.n_infos_len) of_empty in
    let blocks_len = read_lists.blocks.0 ∙ ap (λ h. h.blocks_len) of_empty in
    let reject_len = read_lists.reject ∙ ap (λ h. h.reject_len) of_empty in
    let nodes = filled_lists.nodes ∙ ap (λ h. filled_list blank_node h.capacity lists.nodes.items) of_lists in
    let infos = filled_lists.n_infos ∙ ap (λ h. filled_list blank_info h.capacity lists.n_infos.items) of_lists in
    let blocks = filled_lists.blocks ∙ ap (λ h. filled_list blank_block (h.capacity / 256) lists.blocks.items) of_lists in
    let again = listed_again c.args.slots c.args.memory_limit c.in_ok-header.header sizes
    lists.nodes.items lists.n_infos.items lists.blocks.items lists.reject.items nodes_len infos_len blocks_len reject_len
    tables.nodes.items tables.n_infos.items tables.blocks.items tables.reject.items nodes infos blocks filled_lists.reject in
    let spelled : body_bytes lists.nodes.items lists.n_infos.items lists.blocks.items lists.reject.items ≡ listed_bytes (listed_in tables.header) tables.nodes.items tables.n_infos.items tables.blocks.items tables.reject.items =
    again ∙ ap (λ h. listed_bytes (listed_in h) tables.nodes.items tables.n_infos.items tables.blocks.items tables.reject.items) (sym of_tables) in
    let file = filled_file c.args.slots c.args.memory_limit c.in_ok-header.header sizes
    lists.nodes.items lists.n_infos.items lists.blocks.items lists.reject.items nodes_len infos_len blocks_len reject_len
    tables.nodes.items tables.n_infos.items tables.blocks.items tables.reject.items nodes infos blocks filled_lists.reject read_lists.fits in record {
      bytes = (read.0, subst (λ h. IsHeader c.args.layout read.0 h) (sym of_tables) read.2, Consumes-trans _ _ _ _ _ read.1 (subst (Consumes _ _) (append-nil _ ∙ spelled) body));
      file = subst (λ h. IsFile c.args.slots c.args.memory_limit h tables.nodes.items tables.n_infos.items tables.blocks.items tables.reject.items) (sym of_tables) file;
      answer = whole_file c.args.layout c.args.slots c.args.memory_limit read.0 _ read.2 _ _ _ _ _ read.1 read_lists.bytes (read_lists.len ∙ ap body_len of_empty) sizes c.in_ok-read_end.ensures.ended;
      at_end = c.in_ok-read_end.ensures.at_end;
      decided = λ no_io. whole_file c.args.layout c.args.slots c.args.memory_limit read.0 _ read.2 _ _ _ _ _ read.1 read_lists.bytes (read_lists.len ∙ ap body_len of_empty) sizes c.in_ok-read_end.ensures.whole;
      whole = c.in_ok-read_end.ensures.at_whole;
      io = tt;
      lacks = tt;
    }

pub returns-in_err-empty-clause-asked : goal.returns-in_err-empty-clause-asked
returns-in_err-empty-clause-asked g c =
    let read = c.in_ok-header.ensures.bytes in
    asks_within c.args.layout c.args.slots c.args.memory_limit read.0 c.in_ok-header.header _ _ _ _ read.2 (sym c.in_ok-check_sizes.ensures.refusal) read.1 c.reserve_tables.ensures.asked

pub returns-in_err-lists-clause-asked : goal.returns-in_err-lists-clause-asked
returns-in_err-lists-clause-asked g c =
    let read = c.in_ok-header.ensures.bytes in
    asks_within c.args.layout c.args.slots c.args.memory_limit read.0 c.in_ok-header.header _ _ _ _ read.2 (sym c.in_ok-check_sizes.ensures.refusal) read.1 c.reserve_tables.ensures.asked

pub returns-in_err-read_end-clause-asked : goal.returns-in_err-read_end-clause-asked
returns-in_err-read_end-clause-asked g c =
    let read = c.in_ok-header.ensures.bytes in
    asks_within c.args.layout c.args.slots c.args.memory_limit read.0 c.in_ok-header.header _ _ _ _ read.2 (sym c.in_ok-check_sizes.ensures.refusal) read.1 c.reserve_tables.ensures.asked

pub returns-clause-asked : goal.returns-clause-asked
returns-clause-asked g c =
    let read = c.in_ok-header.ensures.bytes in
    asks_within c.args.layout c.args.slots c.args.memory_limit read.0 c.in_ok-header.header _ _ _ _ read.2 (sym c.in_ok-check_sizes.ensures.refusal) read.1 c.reserve_tables.ensures.asked

pub returns-clause-passes : goal.returns-clause-passes
returns-clause-passes g c =
    let read = c.in_ok-header.ensures.bytes in
    let same : c.fill_tables.result.header ≡ c.in_ok-header.header = c.fill_tables.ensures.header ∙ c.in_ok-lists.ensures.header ∙ c.in_ok-empty.ensures.header in
    subst (Passes c.args.layout c.args.slots c.args.memory_limit _) (sym same) (passes c.args.layout c.args.slots c.args.memory_limit read.0 _ _ _ read.2 (sym c.in_ok-check_sizes.ensures.refusal) read.1)

pub returns-in_err-header-clause-told : goal.returns-in_err-header-clause-told
returns-in_err-header-clause-told g c =
    let p = err_from_is_err_and c.from_residual.result c.from_residual.ensures.1 in
    rw (p.1, p.2) c.in_err-header.ensures.told

pub returns-in_err-header-clause-passes : goal.returns-in_err-header-clause-passes
returns-in_err-header-clause-passes g c =
    let p = err_from_is_err_and c.from_residual.result c.from_residual.ensures.1 in
    rw p.1 tt

pub returns-in_err-check_sizes-clause-told : goal.returns-in_err-check_sizes-clause-told
returns-in_err-check_sizes-clause-told g c =
    let p = err_from_is_err_and c.from_residual-in_err-check_sizes.result c.from_residual-in_err-check_sizes.ensures.1 in
    rw p.1 (λ _. c.in_ok-header.ensures.told)

pub returns-in_err-check_sizes-clause-passes : goal.returns-in_err-check_sizes-clause-passes
returns-in_err-check_sizes-clause-passes g c =
    let p = err_from_is_err_and c.from_residual-in_err-check_sizes.result c.from_residual-in_err-check_sizes.ensures.1 in
    rw p.1 tt

pub returns-in_err-empty-clause-told : goal.returns-in_err-empty-clause-told
returns-in_err-empty-clause-told g c =
    let p = err_from_is_err_and c.from_residual-in_err-empty.result c.from_residual-in_err-empty.ensures.1 in
    rw p.1 (λ _. c.in_ok-header.ensures.told)

pub returns-in_err-empty-clause-passes : goal.returns-in_err-empty-clause-passes
returns-in_err-empty-clause-passes g c =
    let p = err_from_is_err_and c.from_residual-in_err-empty.result c.from_residual-in_err-empty.ensures.1 in
    rw p.1 tt

pub returns-in_err-lists-clause-told : goal.returns-in_err-lists-clause-told
returns-in_err-lists-clause-told g c =
    let p = err_from_is_err_and c.from_residual-in_err-lists.result c.from_residual-in_err-lists.ensures.1 in
    rw (p.1, p.2) (λ ends. c.in_err-lists.ensures.told ends ∙ c.in_ok-header.ensures.told)

pub returns-in_err-lists-clause-passes : goal.returns-in_err-lists-clause-passes
returns-in_err-lists-clause-passes g c =
    let p = err_from_is_err_and c.from_residual-in_err-lists.result c.from_residual-in_err-lists.ensures.1 in
    rw p.1 tt

pub returns-in_err-read_end-clause-told : goal.returns-in_err-read_end-clause-told
returns-in_err-read_end-clause-told g c =
    let p = err_from_is_err_and c.from_residual-in_err-read_end.result c.from_residual-in_err-read_end.ensures.1 in
    rw (p.1, p.2) (λ ends. c.in_err-read_end.ensures.told ends ∙ (c.in_ok-lists.ensures.told ∙ c.in_ok-header.ensures.told))

pub returns-in_err-read_end-clause-passes : goal.returns-in_err-read_end-clause-passes
returns-in_err-read_end-clause-passes g c =
    let p = err_from_is_err_and c.from_residual-in_err-read_end.result c.from_residual-in_err-read_end.ensures.1 in
    rw p.1 tt

pub returns-in_err-header-clause-asked : goal.returns-in_err-header-clause-asked
returns-in_err-header-clause-asked g c = inl refl

pub returns-in_err-check_sizes-clause-asked : goal.returns-in_err-check_sizes-clause-asked
returns-in_err-check_sizes-clause-asked g c = inl refl

pub returns-clause-told : goal.returns-clause-told
returns-clause-told g c = c.in_ok-read_end.ensures.told ∙ (c.in_ok-lists.ensures.told ∙ c.in_ok-header.ensures.told)
