use Rattle.std.proofs.Common.{◌≡◌, ◌≤◌, take, drop}
use Rattle.tacho_state.specs.State.{State}
use Rattle.tacho_desk.specs.Doing.{Kept}
use Rattle.tacho_http.specs.Pages.{ReactsOrGives}
use Rattle.tacho_http.specs.Run.{Run, Went, WentKept}
use Rattle.tacho_http.proofs.connections.answer_all_or_pages.Given as goal

-- the connections so far are a run, and the others are unchanged
abbrev pub invariant-loop-reader : goal.invariant-loop-reader
invariant-loop-reader g l = record {
  bound : l.count ≤ l.reader-index;
  rest : drop l.reader-index l.connections ≡ drop l.reader-index l.fn.connections;
  clean : g.K.Keeper.is_clean l.keeper → g.K.Keeper.is_clean l.fn.keeper;
  run : g.K.Keeper.is_clean l.keeper → (s : State) → g.K.Keeper.stands l.fn.keeper s
      → (t : State) × g.K.Keeper.stands l.keeper t × Run (λ c d. Went (ReactsOrGives l.files l.office_key) (g.R.Source.unread c.0) (g.W.Sink.written c.1) (g.W.Sink.written d.1) (g.R.Source.has_failed d.0) (g.W.Sink.has_failed d.1))
      (take l.reader-index l.fn.connections) (take l.reader-index l.connections) l.count s t;
  crash : g.K.Keeper.is_clean l.keeper → (a : Kept) → g.K.Keeper.stands l.fn.keeper a.state → g.K.Keeper.leaves l.fn.keeper a.past
      → (b : Kept) × g.K.Keeper.stands l.keeper b.state × g.K.Keeper.leaves l.keeper b.past
      × Run (λ c d. WentKept (ReactsOrGives l.files l.office_key) (g.R.Source.unread c.0) (g.W.Sink.written c.1) (g.W.Sink.written d.1) (g.R.Source.has_failed d.0) (g.W.Sink.has_failed d.1))
      (take l.reader-index l.fn.connections) (take l.reader-index l.connections) l.count a b;
}
