use Rattle.std.proofs.Common.{◌≡◌, ◌⊎◌, ◌∙◌, [], ap, inl, inr, length, refl, subst, sym, true}
use Rattle.std.proofs.lemmas.Bool.{true≢false}
use Rattle.cedarwood.specs.RangeWalks.{entries_left}
use Rattle.cedar_c.specs.Below.{FindsNoRoom, following_below, MayWantMemory, TellsNext}
use Rattle.cedar_c.proofs.BelowLemmas.{told_same}
use Rattle.cedar_c.proofs.below.page_below.Goals as goal

pub returns-then-not-can_go_on : goal.returns-then-not-can_go_on
returns-then-not-can_go_on g c = record {
  page = λ goes. absurd (true≢false (sym (c.can_go_on.ensures.1 goes) ∙ c.if-not-can_go_on.true));
  unordered = λ _. (refl, (refl, refl, refl), refl);
}

pub first_below-requires-clause-ordered : goal.first_below-requires-clause-ordered
first_below-requires-clause-ordered g c =
    subst (λ x. (c.args.behind.now ≡ []) ⊎ (x.ordered ≡ true)) c.stands_on_its_table.ensures.state (c.can_go_on.ensures.0 c.if-not-can_go_on.false)

pub returns-in-Ok : goal.returns-in-Ok
returns-in-Ok g c =
    let s = c.args.trie.now.state in
    let T = c.args.trie.now.table in
    let prefix = c.args.prefix.now in
    let behind = c.args.behind.now in
    let found = c.args.found.now in
    let told = c.tell_below.new in
    let on = c.stands_on_its_table.ensures in
    let first = c.in-Ok.first in
    let left : entries_left T prefix first ≡ following_below s.tree prefix behind = c.in-Ok.ensures.place.1 ∙ ap (λ x. following_below x.tree prefix behind) (sym on.state) in
    let kept : FindsNoRoom (length c.args.keys.now) (following_below s.tree prefix behind) → c.first_below.new.bytes ≡ c.args.keys.now =
    λ short. c.first_below.ensures.unchanged (subst (FindsNoRoom (length c.args.keys.now)) (ap (λ x. following_below x.tree prefix behind) on.state) short) in
    record {
      page = λ goes. inl (told_same prefix (following_below s.tree prefix behind) found told.found c.args.keys.now c.first_below.new.bytes told.keys c.args.count.now told.count told.needed c.tell_below.result c.first_below.ensures.room kept
          (subst (λ es. TellsNext prefix es found told.found c.first_below.new.bytes told.keys c.args.count.now told.count told.needed c.tell_below.result) left c.tell_below.ensures));
      unordered = λ stops. absurd (stops (c.can_go_on.ensures.0 c.if-not-can_go_on.false));
    }

pub returns-in-Err : goal.returns-in-Err
returns-in-Err g c =
    let on = c.stands_on_its_table.ensures in
    let wants = c.in-Err.ensures.refused in record {
      page = λ goes. inr (refl, subst (λ x. MayWantMemory x.tree c.args.behind.now (length c.args.keys.now)) (sym on.state) wants.0, (refl, wants.1, refl), refl);
      unordered = λ stops. absurd (stops (c.can_go_on.ensures.0 c.if-not-can_go_on.false));
    }
