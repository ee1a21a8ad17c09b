use Rattle.std.proofs.Common.{◌≡◌, ◌∷◌, ◌∙◌, ℕ, List, true, subst, sym, ap, arith, rules}
use Rattle.std.specs.Prelude.{IsTrue}
use Rattle.std.proofs.lemmas.Bool.{false≢true}
use Rattle.cedar_disk.specs.NotedFiles.{noted_calls}
use Rattle.whole_files.specs.Calls.{Call, MayLeave, all_within, is_named_after, is_usable_after, folder_sync_call, rename_call, seen_after}
use Rattle.cedar_disk.specs.Runs.{IsUnplaced}
use Rattle.cedar_journal.specs.Device.{Only}
use Rattle.cedar_disk.proofs.Steps.{named_again, named_file, named_leaves, names, names_elapse, placed_faults, unplaced_elapse, unplaced_faults, unplaced_leaves, unplaced_lost, unplaced_names, unplaced_within, usable_again}
use Rattle.cedar_disk.proofs.account.Account.replace.Goals as goal

pub invariant_of-self : goal.invariant_of-self
invariant_of-self g c =
    let is : noted_calls c.put_in_place.new.file ≡ folder_sync_call true ∷ rename_call c.args.bytes.now true ∷ noted_calls c.args.self.now.file = search rules in
    let only = named_file (noted_calls c.args.self.now.file) (noted_calls c.put_in_place.new.file) c.args.bytes.now c.requires.known is in
    record {
      usable = λ _. subst (λ (l : List Call). IsTrue (is_usable_after l)) (sym is) (usable_again (noted_calls c.args.self.now.file) c.args.bytes.now c.requires.known);
      known = λ _. subst (λ (l : List Call). IsTrue (is_named_after l)) (sym is) (named_again (noted_calls c.args.self.now.file) c.args.bytes.now c.requires.known);
      lost = λ lost. absurd (false≢true (sym (c.args.self.now.lost lost) ∙ c.requires.known));
      clean = λ _. subst (λ (f : List ℕ). Only f (MayLeave (noted_calls c.put_in_place.new.file))) (sym (ap seen_after is)) only;
      within = subst (λ (l : List Call). IsTrue (all_within l)) (sym is) c.args.self.now.within;
      placed = search rules;
    }

pub invariant_of-self-in-Err : goal.invariant_of-self-in-Err
invariant_of-self-in-Err g c =
    let is : IsUnplaced c.args.bytes.now (noted_calls c.args.self.now.file) (noted_calls c.put_in_place.new.file) = search rules in
    record {
      usable = λ no. absurd (false≢true (sym no));
      known = λ no. absurd (false≢true (sym no));
      lost = λ _. unplaced_lost c.args.bytes.now (noted_calls c.args.self.now.file) (noted_calls c.put_in_place.new.file) is;
      clean = λ no. absurd (false≢true (sym no));
      within = unplaced_within c.args.bytes.now (noted_calls c.args.self.now.file) (noted_calls c.put_in_place.new.file) is c.args.self.now.within;
      placed = search rules;
    }

pub returns-in-Ok-clause-replaced : goal.returns-in-Ok-clause-replaced
returns-in-Ok-clause-replaced g c =
    let is : noted_calls c.put_in_place.new.file ≡ folder_sync_call true ∷ rename_call c.args.bytes.now true ∷ noted_calls c.args.self.now.file = search rules in
    ap seen_after is

pub returns-in-Ok-clause-durable : goal.returns-in-Ok-clause-durable
returns-in-Ok-clause-durable g c =
    let is : noted_calls c.put_in_place.new.file ≡ folder_sync_call true ∷ rename_call c.args.bytes.now true ∷ noted_calls c.args.self.now.file = search rules in
    named_file (noted_calls c.args.self.now.file) (noted_calls c.put_in_place.new.file) c.args.bytes.now c.requires.known is

pub returns-in-Ok-clause-crash : goal.returns-in-Ok-clause-crash
returns-in-Ok-clause-crash g c =
    let is : noted_calls c.put_in_place.new.file ≡ folder_sync_call true ∷ rename_call c.args.bytes.now true ∷ noted_calls c.args.self.now.file = search rules in
    named_leaves (noted_calls c.args.self.now.file) (noted_calls c.put_in_place.new.file) c.args.bytes.now true is

pub returns-in-Ok-clause-time : goal.returns-in-Ok-clause-time
returns-in-Ok-clause-time g c =
    let is : noted_calls c.put_in_place.new.file ≡ folder_sync_call true ∷ rename_call c.args.bytes.now true ∷ noted_calls c.args.self.now.file = search rules in
    names_elapse (noted_calls c.args.self.now.file) c.args.bytes.now (noted_calls c.put_in_place.new.file) true is

pub returns-in-Ok-clause-any_moment : goal.returns-in-Ok-clause-any_moment
returns-in-Ok-clause-any_moment g c =
    let is : noted_calls c.put_in_place.new.file ≡ folder_sync_call true ∷ rename_call c.args.bytes.now true ∷ noted_calls c.args.self.now.file = search rules in
    names (noted_calls c.args.self.now.file) (noted_calls c.put_in_place.new.file) c.args.bytes.now true is

pub returns-in-Ok-clause-faults : goal.returns-in-Ok-clause-faults
returns-in-Ok-clause-faults g c =
    let is : noted_calls c.put_in_place.new.file ≡ folder_sync_call true ∷ rename_call c.args.bytes.now true ∷ noted_calls c.args.self.now.file = search rules in
    placed_faults c.args.bytes.now (noted_calls c.args.self.now.file) (noted_calls c.put_in_place.new.file) is

pub returns-in-Err-clause-crash : goal.returns-in-Err-clause-crash
returns-in-Err-clause-crash g c =
    let is : IsUnplaced c.args.bytes.now (noted_calls c.args.self.now.file) (noted_calls c.put_in_place.new.file) = search rules in
    unplaced_leaves c.args.bytes.now (noted_calls c.args.self.now.file) (noted_calls c.put_in_place.new.file) is

pub returns-in-Err-clause-time : goal.returns-in-Err-clause-time
returns-in-Err-clause-time g c =
    let is : IsUnplaced c.args.bytes.now (noted_calls c.args.self.now.file) (noted_calls c.put_in_place.new.file) = search rules in
    unplaced_elapse c.args.bytes.now (noted_calls c.args.self.now.file) (noted_calls c.put_in_place.new.file) is

pub returns-in-Err-clause-any_moment : goal.returns-in-Err-clause-any_moment
returns-in-Err-clause-any_moment g c =
    let is : IsUnplaced c.args.bytes.now (noted_calls c.args.self.now.file) (noted_calls c.put_in_place.new.file) = search rules in
    unplaced_names c.args.bytes.now (noted_calls c.args.self.now.file) (noted_calls c.put_in_place.new.file) is

pub returns-in-Err-clause-fault : goal.returns-in-Err-clause-fault
returns-in-Err-clause-fault g c =
    let is : IsUnplaced c.args.bytes.now (noted_calls c.args.self.now.file) (noted_calls c.put_in_place.new.file) = search rules in
    unplaced_faults c.args.bytes.now (noted_calls c.args.self.now.file) (noted_calls c.put_in_place.new.file) is

pub returns-in-Err-clause-faults : goal.returns-in-Err-clause-faults
returns-in-Err-clause-faults g c =
    let is : IsUnplaced c.args.bytes.now (noted_calls c.args.self.now.file) (noted_calls c.put_in_place.new.file) = search rules in
    omega (arith, unplaced_faults c.args.bytes.now (noted_calls c.args.self.now.file) (noted_calls c.put_in_place.new.file) is)

pub returns-in-Err-clause-lost : goal.returns-in-Err-clause-lost
returns-in-Err-clause-lost g c =
    let is : IsUnplaced c.args.bytes.now (noted_calls c.args.self.now.file) (noted_calls c.put_in_place.new.file) = search rules in
    unplaced_lost c.args.bytes.now (noted_calls c.args.self.now.file) (noted_calls c.put_in_place.new.file) is
