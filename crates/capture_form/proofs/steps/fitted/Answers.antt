use Rattle.std.proofs.Common.{◌∙◌, ap, slice_set}
use Rattle.std.proofs.lemmas.List.{set-set, set-get_or}
use Rattle.capture_form.proofs.steps.fitted.Goals as goal

pub loop-link-preserved : goal.loop-link-preserved
loop-link-preserved c =
    let lists = c.loop-link.lists.items in
    let link = c.loop-link.link in
    let same = c.from.ensures ∙ c.shrink_to_fit.ensures.items ∙ c.into_vec-events.ensures ∙ c.replace-list.ensures.value ∙ c.index_mut.ensures.value in
    set-set lists link _ _ ∙ ap (λ list. slice_set lists link list) same ∙ set-get_or lists link _ ∙ c.loop-link.invariant
