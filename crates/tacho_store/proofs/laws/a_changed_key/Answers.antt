use Rattle.tacho_store.proofs.laws.a_changed_key.Goals as goal

pub returns : goal.returns
returns c = record {
  theirs = c.a_changed_key.ensures.theirs;
  before = λ t s n key d h. c.a_changed_key.ensures.before s n key d h.distinct;
}
