-- Private to tacho_tables: The two tables of spans: which list of `Tables` each of them is, and the SQL on it.
use Rattle.std.specs.Prelude.{ℕ, codes, List}
use Rattle.tacho_tables.specs.declared.spans.SpanTable.{SpanTable}
use Rattle.tacho_tables.specs.declared.spans.SpanTable.TheVariants.{CardSpans, Held}
use Rattle.tacho_tables.specs.Schema.{card_span_rows, held_rows}
use Rattle.tacho_tables.specs.Rows.{SpanRow}
use Rattle.tacho_tables.specs.Tables.{Tables}

-- the rows of a table of spans
abbrev pub spans_in : SpanTable → Tables → List SpanRow
spans_in CardSpans a = a.card_spans
spans_in Held a = a.held

-- the tables with these rows in place of its own
abbrev pub with_span_rows : SpanTable → List SpanRow → Tables → Tables
with_span_rows CardSpans rows a = record a { card_spans = rows }
with_span_rows Held rows a = record a { held = rows }

-- the tree number by which the store knows its rows
abbrev pub span_table_rows : SpanTable → ℕ
span_table_rows CardSpans = card_span_rows
span_table_rows Held = held_rows

-- the SQL that reads the latest span that begins before a minute
abbrev pub before_text : SpanTable → List ℕ
before_text CardSpans = codes "SELECT start, past, mark FROM card_spans WHERE driver = ?1 AND start < ?2 ORDER BY start DESC LIMIT 1"
before_text Held = codes "SELECT start, past, mark FROM held WHERE driver = ?1 AND start < ?2 ORDER BY start DESC LIMIT 1"

-- the SQL that reads the spans that begin in a range
abbrev pub begun_text : SpanTable → List ℕ
begun_text CardSpans = codes "SELECT start, past, mark FROM card_spans WHERE driver = ?1 AND ?2 <= start AND start < ?3 ORDER BY start"
begun_text Held = codes "SELECT start, past, mark FROM held WHERE driver = ?1 AND ?2 <= start AND start < ?3 ORDER BY start"

-- the SQL that adds a span
abbrev pub insert_text : SpanTable → List ℕ
insert_text CardSpans = codes "INSERT INTO card_spans (driver, start, past, mark) VALUES (?1, ?2, ?3, ?4)"
insert_text Held = codes "INSERT INTO held (driver, start, past, mark) VALUES (?1, ?2, ?3, ?4)"

-- the SQL that adds eight spans of a driver
abbrev pub eight_text : SpanTable → List ℕ
eight_text CardSpans = codes "INSERT INTO card_spans (driver, start, past, mark) VALUES (?1, ?2, ?3, ?4), (?1, ?5, ?6, ?7), (?1, ?8, ?9, ?10), (?1, ?11, ?12, ?13), (?1, ?14, ?15, ?16), (?1, ?17, ?18, ?19), (?1, ?20, ?21, ?22), (?1, ?23, ?24, ?25)"
eight_text Held = codes "INSERT INTO held (driver, start, past, mark) VALUES (?1, ?2, ?3, ?4), (?1, ?5, ?6, ?7), (?1, ?8, ?9, ?10), (?1, ?11, ?12, ?13), (?1, ?14, ?15, ?16), (?1, ?17, ?18, ?19), (?1, ?20, ?21, ?22), (?1, ?23, ?24, ?25)"
