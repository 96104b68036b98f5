use Rattle.std.proofs.Common.{inl}
use Rattle.px_counted.proofs.Variations.{full_for_a_key, full_for_calls, full_of_variations, full_place, in_chains, used_less_free, variations_fill}
use Rattle.px_counted.proofs.laws.variations_are_the_slots_in_chains.Goals as goal

pub returns-clause-in_chains : goal.returns-clause-in_chains
returns-clause-in_chains c = in_chains

pub returns-clause-counted : goal.returns-clause-counted
returns-clause-counted c = used_less_free

pub returns-clause-full : goal.returns-clause-full
returns-clause-full c = λ parts m store t h opening fits. (full_of_variations parts m store t h opening, variations_fill parts m store t h opening fits)

pub returns-clause-no_place : goal.returns-clause-no_place
returns-clause-no_place c = λ parts m store t key h opening fits. (
  full_for_a_key parts m store t key h opening fits,
  λ most. inl (variations_fill parts m store t h opening fits most),
)

pub returns-clause-calls : goal.returns-clause-calls
returns-clause-calls c = λ parts m store t key h opening fits. (full_for_calls parts m store t key h opening fits, full_place parts m store t key h opening fits)
