-- A migrated state is within its limits.
use Rattle.std.proofs.Common.{ℕ, zero, suc, ◌<◌, List, [], ◌∷◌, codes, map, IsAscii, arith}
use Rattle.std.specs.List.{AllByRecursion}
use Rattle.std.proofs.lemmas.List.Elements.{All-from_recursion, All-nil}
use Rattle.std.proofs.lemmas.Str.{IsUtf8-from_ascii}
use Rattle.tacho_state.specs.Batch.{IsEntryLine}
use Rattle.tacho_state.specs.Limits.{IsName, IsNameByte}
use Rattle.tacho_state.specs.Within.{AreWithinLimits, IsEntry, hours_of}
use Rattle.tacho_store.specs.Old.{OldEntry, OldState, IsOldWithinLimits, entry_by_office, with_office}

-- ---- the author and the note of its entries

letter : (c : ℕ) → 96 < c → c < 127 → IsNameByte c
letter c low high = record {
  printed = omega arith;
  no_delete = λ e. omega (arith, e);
  no_comma = λ e. omega (arith, e);
  no_quote = λ e. omega (arith, e);
}

office_is_name : IsName (codes "office")
office_is_name = record {
  least = omega arith;
  most = omega arith;
  bytes = All-from_recursion IsNameByte (codes "office") (
    letter 111 (omega arith) (omega arith),
    (
      letter 102 (omega arith) (omega arith),
      (
        letter 102 (omega arith) (omega arith),
        (letter 105 (omega arith) (omega arith), (letter 99 (omega arith) (omega arith), (letter 101 (omega arith) (omega arith), tt))),
      ),
    ),
  );
}

office_is_ascii : IsAscii (codes "office")
office_is_ascii zero = omega arith
office_is_ascii (suc zero) = omega arith
office_is_ascii (suc (suc zero)) = omega arith
office_is_ascii (suc (suc (suc zero))) = omega arith
office_is_ascii (suc (suc (suc (suc zero)))) = omega arith
office_is_ascii (suc (suc (suc (suc (suc zero))))) = omega arith
office_is_ascii (suc (suc (suc (suc (suc (suc i)))))) = omega arith

-- ---- the state

entries_within : (es : List OldEntry) → AllByRecursion (λ (e : OldEntry). IsEntryLine (hours_of (entry_by_office e))) es
    → AllByRecursion IsEntry (map entry_by_office es)
entries_within [] h = tt
entries_within (e ∷ es) h = (
  record {
    line = h.0;
    author = office_is_name;
    note = record { most = omega arith; bytes = All-nil IsNameByte };
    author_text = IsUtf8-from_ascii (codes "office") office_is_ascii;
    note_text = IsUtf8-from_ascii [] (λ i. omega arith);
  },
  entries_within es h.1,
)

pub migrated_within : (s : OldState) → AllByRecursion IsOldWithinLimits s → AreWithinLimits (with_office s)
migrated_within [] h = tt
migrated_within (d ∷ s) h = (
  record { columns = h.0.columns; files = h.0.files; entries = entries_within d.entries h.0.entries },
  migrated_within s h.1,
)
