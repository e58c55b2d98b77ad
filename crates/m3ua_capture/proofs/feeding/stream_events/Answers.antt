use Rattle.std.proofs.Common.{◌∙◌, refl, rules}
use Rattle.m3ua_capture.proofs.FrameLemmas.{none-given, whole-refused}
use Rattle.m3ua_capture.proofs.feeding.stream_events.Goals as goal

pub feed_all-requires-clause-new : goal.feed_all-requires-clause-new
feed_all-requires-clause-new c = record {
  own_point = refl;
  octets = search rules;
  going = search rules;
  given = c.new-events.ensures ∙ none-given c.new-port.result.own;
  few = search rules;
}

pub returns-in_err-feed_all : goal.returns-in_err-feed_all
returns-in_err-feed_all c = search (rules, whole-refused)
