use Rattle.std.proofs.Common.{map, sym, ap, subst, Err}
use Rattle.std.specs.Prelude.{string_bytes}
use Rattle.command_words.specs.Commands.{command_in}
use Rattle.relay_call.specs.Outcome.{device, Says, IsServed}
use Rattle.relay_call.proofs.OutcomeLemmas.{says-nothing}
use Rattle.relay_call.proofs.StopLemmas.{same-stop, IsStop, IsEnd, end-served, stop-served}
use Rattle.relay_call.proofs.relay.Goals as goal

pub returns-in-Ok : goal.returns-in-Ok
returns-in-Ok g c =
    let read = device (g.S.Source.left c.args.source.now) (g.S.Source.left c.serve.new.source) (g.S.Source.faults c.args.source.now) (g.S.Source.faults c.serve.new.source) in
    let written = device (g.K.Sink.held c.args.out.now) (g.K.Sink.held c.serve.new.out) (g.K.Sink.faults c.args.out.now) (g.K.Sink.faults c.serve.new.out) in
    let noted = device (g.N.Sink.held c.args.notes.now) (g.N.Sink.held c.args.notes.now) (g.N.Sink.faults c.args.notes.now) (g.N.Sink.faults c.args.notes.now) in
    let told = c.in-Ok.ensures in
    let end : IsEnd (command_in (map string_bytes c.args.words.now)) read written c.serve.new.book = record {
      done = told.ok;
      made = told.made;
      source_kept = told.source.1 (λ e. cc);
      out_kept = told.sink.1 (λ e. cc);
    } in
    end-served (command_in (map string_bytes c.args.words.now)) read written noted c.serve.new.book end
    (says-nothing (g.N.Sink.held c.args.notes.now) (g.N.Sink.faults c.args.notes.now))

pub returns-in-Err : goal.returns-in-Err
returns-in-Err g c =
    let read = device (g.S.Source.left c.args.source.now) (g.S.Source.left c.serve.new.source) (g.S.Source.faults c.args.source.now) (g.S.Source.faults c.serve.new.source) in
    let written = device (g.K.Sink.held c.args.out.now) (g.K.Sink.held c.serve.new.out) (g.K.Sink.faults c.args.out.now) (g.K.Sink.faults c.serve.new.out) in
    let noted = device (g.N.Sink.held c.args.notes.now) (g.N.Sink.held c.say.new.notes) (g.N.Sink.faults c.args.notes.now) (g.N.Sink.faults c.say.new.notes) in
    let told = c.in-Err.ensures in
    let stop : IsStop (command_in (map string_bytes c.args.words.now)) read written c.serve.new.book c.in-Err.stop = record {
      stopped = told.stopped;
      words = told.words;
      made = told.made;
      read_fault = λ is. told.source.0 (ap Err is);
      write_fault = λ is. told.sink.0 (ap Err is);
      source_kept = λ other. told.source.1 (λ e. other (same-stop _ _ e));
      out_kept = λ other. told.sink.1 (λ e. other (same-stop _ _ e));
    } in
    subst (IsServed (command_in (map string_bytes c.args.words.now)) read written noted c.serve.new.book) (sym c.status_of.ensures)
    (stop-served (command_in (map string_bytes c.args.words.now)) read written noted c.serve.new.book c.in-Err.stop stop (subst (Says noted.bytes noted.before noted.after) c.note_of.ensures c.say.ensures))
