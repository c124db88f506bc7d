-- Private to tacho_store: What a file's spans add, and why they are refused.
use Rattle.std.specs.Prelude.{◌≡◌, ℕ, ◌⊎◌, List, ◌∷◌}
use Rattle.tacho_time.specs.OrMemory.{OrMemory}
use Rattle.tacho_time.specs.declared.span.Span.{Span}
use Rattle.tacho_time.specs.Spans.{IsFirstConflict}
use Rattle.tacho_line.specs.Line.{Together, AreGains}
use Rattle.tacho_state.specs.declared.fault.StoreFault.{StoreFault}
use Rattle.tacho_state.specs.declared.fault.StoreFault.TheVariants.{Contradiction, Store, Memory}
use Rattle.tacho_state.specs.Disjoint.{HasNews}

-- what spans add to what downloads give near them (at least one span), and what they add to what the driver holds near them
abbrev pub AreNews : List Span → List Span → List Span → List Span → List Span → Type 0
AreNews card_line line spans card_gains gains =
    (first : Span) × (others : List Span) × (card_gains ≡ first ∷ others) × AreGains card_line spans card_gains × AreGains line spans gains

-- the fault reports the least minute at which spans contradict a line
abbrev pub IsContradicted : List Span → List Span → StoreFault → Type 0
IsContradicted line spans fault = (m : ℕ) × (fault ≡ Contradiction m) × IsFirstConflict (Together line spans) m

-- rows that no archive has: the spans contradict what downloads give, yet not what the driver holds
abbrev pub IsTorn : List Span → List Span → List Span → Type 0
IsTorn card_line line spans = (m : ℕ) × IsFirstConflict (Together card_line spans) m × (gains : List Span) × AreGains line spans gains

-- spans are refused if they are new and contradict what the driver holds; S12 occurs only with rows that no archive has
abbrev pub IsNewsRefused : List Span → List Span → List Span → StoreFault → Type 0
IsNewsRefused card_line line spans fault =
    OrMemory Memory fault (((fault ≡ Store) × IsTorn card_line line spans) ⊎ ((m : ℕ) × (fault ≡ Contradiction m) × HasNews card_line spans × IsFirstConflict (Together line spans) m))
