-- What came from a source, and what comes behind it.
use Rattle.std.proofs.Common.{◌≡◌, ℕ, ◌+◌, ◌≤◌, true, false, true≢false, List, [], ◌++◌, length, length-append, append_assoc, append-nil, Option, Result, Ok, Err, sym, ap, ◌∙◌, subst, arith}
use Rattle.std.specs.Io.KnownBytes.{Consumes, IsAtEnd}
use Rattle.std.proofs.KnownBytes.{Consumes-trans}
use Rattle.relay_base.specs.Streams.{TookMore}
use Rattle.relay_base.specs.declared.limits.TheConstants.{MOST_BYTES}
use Rattle.relay_base.specs.declared.errors.ReadAllFault.{ReadAllFault}
use Rattle.relay_base.specs.declared.errors.ReadAllFault.TheVariants.{TooLong, Fault, Memory}
use Rattle.capture_pieces.specs.Inner.Feeds.{Comes, HasCome, PassedOver}
use Rattle.capture_pieces.specs.declared.feed.Feed.{Feed}

-- one octet more came than may come
pub too-many : (first now next : Option (List ℕ)) (feed : Feed) (taken part : List ℕ) → HasCome first now feed taken → Consumes now next part
    → feed.came + length part ≡ MOST_BYTES + 1 → TookMore first next MOST_BYTES
too-many first now next feed taken part has gives count =
    let long = length-append (taken ++ feed.text.items) part in
    ((taken ++ feed.text.items) ++ part, Consumes-trans first now next (taken ++ feed.text.items) part has.octets gives, omega (arith, long, has.count, count))

-- what came behind the octets of a feed, and is passed over
pub record PassesOver (first now : Option (List ℕ)) (old new : Feed) (taken : List ℕ) : Type 0 where
  pub rest : List ℕ
  pub octets : Consumes first now (taken ++ (old.text.items ++ rest))
  pub count : new.came ≡ length (taken ++ (old.text.items ++ rest))
  pub end : new.ended ≡ true → IsAtEnd now
  pub none : old.ended ≡ true → (new.ended ≡ true) × (length rest ≡ 0)

-- all that came was read where a feed is empty
pub passes-cleared : (first now : Option (List ℕ)) (old new empty : Feed) (taken : List ℕ) (over : PassesOver first now old new taken)
    → empty.text.items ≡ [] → empty.came ≡ new.came → empty.ended ≡ new.ended → HasCome first now empty (taken ++ (old.text.items ++ over.rest))
passes-cleared first now old new empty taken over none came ended =
    let all = taken ++ (old.text.items ++ over.rest) in
    let same : all ≡ all ++ empty.text.items = sym (ap (λ l. all ++ l) none ∙ append-nil all) in
    record {
      octets = subst (Consumes first now) same over.octets;
      count = came ∙ over.count ∙ ap length same;
      end = λ e. over.end (sym ended ∙ e);
    }

-- and what comes then is passed over too
pub passes-more : (first now next : Option (List ℕ)) (old new later : Feed) (taken : List ℕ) (over : PassesOver first now old new taken) → new.ended ≡ false
    → HasCome first next later (taken ++ (old.text.items ++ over.rest)) → PassesOver first next old later taken
passes-more first now next old new later taken over goes has =
    let more = later.text.items in
    let same : (taken ++ (old.text.items ++ over.rest)) ++ more ≡ taken ++ (old.text.items ++ (over.rest ++ more)) =
    append_assoc taken (old.text.items ++ over.rest) more ∙ ap (λ l. taken ++ l) (append_assoc old.text.items over.rest more) in
    record {
      rest = over.rest ++ more;
      octets = subst (Consumes first next) same has.octets;
      count = has.count ∙ ap length same;
      end = has.end;
      none = λ e. absurd (true≢false (sym (over.none e).0 ∙ goes));
    }

-- until none comes
pub passed : (first now : Option (List ℕ)) (old new : Feed) (taken : List ℕ) (u : Unit {0}) → PassesOver first now old new taken → new.ended ≡ true → new.came ≤ MOST_BYTES
    → PassedOver first taken old now (Ok u)
passed first now old new taken u over ended few = (over.rest, over.octets, over.end ended, omega (arith, over.count, few), λ e. (over.none e).1)

-- a call that failed
abbrev pub fails : ReadAllFault → Result (Unit {0}) ReadAllFault
fails fault = Err fault

-- or too many come, or the call fails otherwise
pub passes-refused : (first now : Option (List ℕ)) (old new : Feed) (taken all : List ℕ) (fault : ReadAllFault) → Comes first all now new (fails fault)
    → PassedOver first taken old now (fails fault)
passes-refused first now old new taken all TooLong comes = comes
passes-refused first now old new taken all Fault comes = tt
passes-refused first now old new taken all Memory comes = tt
