use Rattle.std.proofs.Common.{◌≡◌, ◌<◌, ◌∙◌, arith, inl, inr, pos, rules, subst, sym}
use Rattle.cedar_model.specs.Edit.NodeEdits.{IsLabelOf, IsLead}
use Rattle.cedar_model.specs.Meaning.Family.{base_of, below, Links}
use Rattle.cedar_table.specs.Table.Views.{cells, fields}
use Rattle.cedar_model.specs.Table.TableFields.{size_of}
use Rattle.cedar_model.proofs.MeaningLemmas.Chain.{first_links, lead_links, links_few, links_next, root_stored, strictly_below}
use Rattle.cedar_model.proofs.EditLemmas.SlotForLabel.{lead_inside, root_lead}
use Rattle.cedar_model.proofs.MeaningLemmas.ExclusiveOr.{xor_within}
use Rattle.cedar_edit.proofs.edit.leaf.slot_before.Goals as goal
use Rattle.cedar_edit.proofs.edit.leaf.slot_before.Goals.{then-node-eq0-via-then-node-eq0, then-node-eq0-via-else-node-eq0+then-has_number_slot, then-not-ordered-via-then-not-ordered, then-not-ordered-via-else-not-ordered+then-first-eq0, then-not-ordered-via-else-not-ordered+else-first-eq0+then-label-first}

pub has_number_slot-requires : goal.has_number_slot-requires
has_number_slot-requires g c =
    let k = c.requires.chain in
    (search rules, (c.requires.node_in, (c.if-node-eq0.false, record { head = k.head; labels = k.listed; family = k.family })))

pub last_before-requires : goal.last_before-requires
last_before-requires g c =
    let T = cells c.args.table.now in
    let size = size_of (fields c.args.table.now) in
    let ordered = (fields c.args.table.now).ordered in
    let k = c.requires.chain in
    let s = c.child_slot-lead.result in
    let e : s ≡ below T c.args.node 0 = c.child_slot-lead.ensures in
    let lead : IsLead T c.args.node s = elim c.then-node-eq0.branch [
      | then-node-eq0-via-then-node-eq0 w ↦ inl (w.if-node-eq0.true, e ∙ root_lead T c.args.node w.if-node-eq0.true (root_stored size T ordered c.args.node k w.if-node-eq0.true))
      | then-node-eq0-via-else-node-eq0+then-has_number_slot w ↦ inr (w.has_number_slot.ensures.0 w.if-has_number_slot.true, e)
    ] in
    let links : Links T c.args.node (T.sibling s) k.listed = lead_links size T ordered c.args.node s k lead in (
      search rules,
      record {
        node_in = c.requires.node_in;
        based = c.requires.based;
        start_in = subst (λ x. x < size) (sym e) (lead_inside size T c.args.node c.requires.based);
        behind = inl lead;
        absent = c.requires.absent;
        rest = (k.listed, links, links_few T c.args.node (T.sibling s) k.listed links);
      },
    )

pub returns-then-not-ordered : goal.returns-then-not-ordered
returns-then-not-ordered g c =
    let T = cells c.args.table.now in
    let first : c.child-first.result ≡ T.child c.args.node = c.child-first.ensures in
    record {
      not_root = c.if-node-eq0.false;
      no_number = λ o. let yes = c.has_number_slot.ensures.1 o in let no = c.if-has_number_slot.false in cc;
      place = λ is. elim c.then-not-ordered.branch [
        | then-not-ordered-via-then-not-ordered w ↦ let no = w.if-not-ordered.true in let told = c.ordered.ensures in cc
        | then-not-ordered-via-else-not-ordered+then-first-eq0 w ↦ inl (sym first ∙ w.if-first-eq0.true)
        | then-not-ordered-via-else-not-ordered+else-first-eq0+then-label-first w ↦ inr (subst (λ x. c.args.label < x) first w.if-label-first.true)
      ];
    }

pub last_before-requires-2 : goal.last_before-requires-2
last_before-requires-2 g c =
    let T = cells c.args.table.now in
    let size = size_of (fields c.args.table.now) in
    let ordered = (fields c.args.table.now).ordered in
    let a = c.args.node in
    let k = c.requires.chain in
    let r = c.child-first.result in
    let s = c.child_slot-start.result in
    let e : s ≡ below T a r = c.child_slot-start.ensures in
    let none : T.check (below T a 0) ≡ pos a → ⊥ = λ o. let yes = c.has_number_slot.ensures.1 o in let no = c.if-has_number_slot.false in cc in
    let links : Links T a r k.listed = subst (λ x. Links T a x k.listed) (sym c.child-first.ensures) (first_links size T ordered a k c.if-node-eq0.false none) in
    let n = links_next T a r k.listed links c.if-first-eq0.false in
    let less : r < c.args.label = strictly_below T a r c.args.label n.label.owner (λ more. omega (arith, c.if-label-first.false, more)) c.requires.absent in
    let few = links_few T a r k.listed links in
    let inside : s < size = subst (λ x. x < size) (sym e) (xor_within size (base_of T a) r (omega arith) c.requires.based n.label.small) in (
      search rules,
      record {
        node_in = c.requires.node_in;
        based = c.requires.based;
        start_in = inside;
        behind = inr (sym c.ordered.ensures ∙ c.if-not-ordered.false, r, less, subst (IsLabelOf T a r) (sym e) n.label);
        absent = c.requires.absent;
        rest = (n.rest, subst (λ x. Links T a (T.sibling x) n.rest) (sym e) n.links, omega (arith, n.shorter, few));
      },
    )
