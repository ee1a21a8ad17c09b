use Rattle.std.proofs.Common.{ℕ, List, IfErr, IfOk, subst}
use Rattle.std.specs.Io.Buffered.{writer_inner}
use Rattle.whole_files.specs.Beginnings.{unplaced_bytes, unplaced_path}
use Rattle.whole_files.specs.PathFiles.{path_calls}
use Rattle.whole_files.specs.Words.{IsPlaced}
use Rattle.cedarwood.specs.Words.{IsUnsavedAt, table_bytes}
use Rattle.cedarwood.proofs.SaveLemmas.{lands}
use Rattle.cedar_tree.proofs.GeneralLemmas.{on_ok}
use Rattle.cedarwood.proofs.trie.Trie.fill.Goals as goal

pub returns-in-Ok-clause-saved : goal.returns-in-Ok-clause-saved
returns-in-Ok-clause-saved g c =
    let all = table_bytes c.args.minor c.args.self.now.table in
    let path = c.args._path.now in
    let new = writer_inner c.args.new in
    let made = c.in-Ok.whole in
    let is = lands path all (unplaced_path new) (unplaced_bytes new) (unplaced_path made) (unplaced_bytes made) c.requires.path c.requires.empty c.in-Ok.ensures.bytes in
    subst (λ (l : List ℕ). IfOk c.put_in_place.result (λ calls. IsPlaced path l (path_calls calls))) is.1
    (subst (λ (p : List ℕ). IfOk c.put_in_place.result (λ calls. IsPlaced p (unplaced_bytes made) (path_calls calls))) is.0 c.put_in_place.ensures.placed)

pub returns-in-Ok-clause-unplaced : goal.returns-in-Ok-clause-unplaced
returns-in-Ok-clause-unplaced g c =
    let all = table_bytes c.args.minor c.args.self.now.table in
    let path = c.args._path.now in
    let new = writer_inner c.args.new in
    let made = c.in-Ok.whole in
    let is = lands path all (unplaced_path new) (unplaced_bytes new) (unplaced_path made) (unplaced_bytes made) c.requires.path c.requires.empty c.in-Ok.ensures.bytes in
    subst (λ (l : List ℕ). IfErr c.put_in_place.result (IsUnsavedAt path l)) is.1
    (subst (λ (p : List ℕ). IfErr c.put_in_place.result (IsUnsavedAt p (unplaced_bytes made))) is.0 c.put_in_place.ensures.unplaced)

pub returns-in-Ok-clause-file : goal.returns-in-Ok-clause-file
returns-in-Ok-clause-file g c = on_ok c.put_in_place.result c.in-Ok.ensures.file

pub returns-in-Ok-clause-passes : goal.returns-in-Ok-clause-passes
returns-in-Ok-clause-passes g c = on_ok c.put_in_place.result c.in-Ok.ensures.passes
