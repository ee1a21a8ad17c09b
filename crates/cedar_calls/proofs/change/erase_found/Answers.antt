use Rattle.std.proofs.Common.{rules, w32, refl, ap, sym, ◌∙◌, FitsSigned, Some}
use Rattle.std.proofs.lemmas.Int.{to_z-of_z}
use Rattle.cedar_calls.proofs.change.erase_found.Goals as goal

pub returns-in_err-found : goal.returns-in_err-found
returns-in_err-found g c =
    let e = c.in_err-found.ensures.absent refl in
    record { told = c.from_residual.ensures ∙ sym c.in_err-found.ensures.found; erased = record { state = e.state; marks = e.marks; size = e.size; max_trial = e.max_trial; search_limit = e.search_limit } }

pub returns : goal.returns
returns g c =
    let e = c.erase_found.ensures in
    let found = c.in_ok-found.found in
    let fits : FitsSigned w32 found.value = search rules in
    record {
      told = ap Some (to_z-of_z w32 found.value fits) ∙ sym c.in_ok-found.ensures.found.value;
      erased = record { state = e.state; marks = e.marks; size = e.size; max_trial = e.max_trial; search_limit = e.search_limit };
    }
