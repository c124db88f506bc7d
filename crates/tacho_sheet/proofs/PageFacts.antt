-- The lines that docs/FORMATS.md shows are those of the definitions: with another text or number here, this file isn't accepted.
-- Where that page has a letter for the number or the minute of a fault, the examples of README.md, docs/CARD.md and docs/OFFICE.md give it.
use Rattle.std.proofs.Common.{◌≡◌, List, [], ◌∷◌, ◌++◌, codes, map, true, false, None, Some, refl}
use Rattle.std.specs.Fmt.{digits}
use Rattle.tacho_time.specs.declared.span.Activity.TheVariants.{Rest, Work, Drive}
use Rattle.tacho_time.specs.declared.span.Span.{Span}
use Rattle.tacho_time.specs.declared.fault.TimeFault.TheVariants as time
use Rattle.tacho_time.specs.Calendar.{year_after, month_after, civil}
use Rattle.tacho_card.specs.declared.fault.CardFault.TheVariants as card
use Rattle.tacho_line.specs.declared.horizon.Cause.TheVariants.{Unknown, Crew}
use Rattle.tacho_line.specs.declared.horizon.Horizon.{Horizon}
use Rattle.tacho_law.specs.declared.breach.Breach.{Breach}
use Rattle.tacho_law.specs.declared.debt.Debt.{Debt}
use Rattle.tacho_law.specs.declared.breach.Kind.TheVariants.{B1, B2, B3, B4, B5, B6, B7, B8, B9, B10}
use Rattle.tacho_stretches.specs.Stretches.{Judged}
use Rattle.tacho_state.specs.declared.driver.Column.TheVariants as column
use Rattle.tacho_state.specs.declared.entry.Entry.{Entry}
use Rattle.tacho_state.specs.declared.fault.StoreFault.TheVariants as store
use Rattle.tacho_state.specs.declared.imported.Imported.TheVariants.{Added, Repeated}
use Rattle.tacho_state.specs.Summaries.{Summary}
use Rattle.tacho_sheet.specs.declared.fault.LeftOut.TheVariants as left_out
use Rattle.tacho_sheet.specs.declared.fault.SheetFault.TheVariants as sheet
use Rattle.tacho_sheet.specs.declared.fault.Fault.TheVariants as fault
use Rattle.tacho_sheet.specs.Done.{number_line, imported_text, entered_text, base_line}
use Rattle.tacho_sheet.specs.Lines.{fault_line, no_memory_line}
use Rattle.tacho_sheet.specs.Reports.{kind_name, breach_line, horizon_line, debt_line, gap_line, csv_text}
use Rattle.tacho_sheet.specs.Reports.{weekday_name, day_line, day_lines, sheet_text}
use Rattle.tacho_sheet.specs.Stretches.{stretch_text, debt_text}
use Rattle.tacho_sheet.specs.Months.{article, count_of, incident_head, incident_row, is_examined, kind_code, kinds, overview_head, overview_row}
use Rattle.tacho_sheet.specs.Form.{form_row}
use Rattle.tacho_sheet.specs.Text.{entry_line, summary_line}

-- ---- faults of times

z1 : fault_line (fault.Time time.Shape) ≡ codes "Z1 not of the shape\n"
z1 = refl

z2 : fault_line (fault.Time time.NoSuchDate) ≡ codes "Z2 no such date\n"
z2 = refl

z3 : fault_line (fault.Time time.OutOfRange) ≡ codes "Z3 out of range\n"
z3 = refl

-- ---- faults of cards

c1 : fault_line (fault.Card (card.Truncated 22)) ≡ codes "C1 truncated block at 22\n"
unfolding digits
c1 = refl

c2 : fault_line (fault.Card (card.Twice 0x0520 0)) ≡ codes "C2 block 0520 00 twice\n"
c2 = refl

c3 : fault_line (fault.Card card.NoIdentification) ≡ codes "C3 no identification\n"
c3 = refl

c4 : fault_line (fault.Card card.ShortIdentification) ≡ codes "C4 identification too short\n"
c4 = refl

c5 : fault_line (fault.Card card.TwoCards) ≡ codes "C5 two cards\n"
c5 = refl

c6 : fault_line (fault.Card card.NoActivity) ≡ codes "C6 no activity data\n"
c6 = refl

c7 : fault_line (fault.Card card.ShortActivity) ≡ codes "C7 activity data too short\n"
c7 = refl

c8 : fault_line (fault.Card card.Pointer) ≡ codes "C8 pointer out of the buffer\n"
c8 = refl

c9 : fault_line (fault.Card (card.RecordLength 20)) ≡ codes "C9 record length at 20\n"
unfolding digits
c9 = refl

c10 : fault_line (fault.Card (card.Chain 0)) ≡ codes "C10 chain broken at 0\n"
unfolding digits
c10 = refl

c11 : fault_line (fault.Card (card.DayRange 0)) ≡ codes "C11 day out of range at 0\n"
unfolding digits
c11 = refl

c12 : fault_line (fault.Card (card.WordMinute 14)) ≡ codes "C12 word minute at 14\n"
unfolding digits
c12 = refl

c13 : fault_line (fault.Card (card.WordOrder 16)) ≡ codes "C13 word order at 16\n"
unfolding digits
c13 = refl

c14 : fault_line (fault.Card (card.SelfContradiction 28491840)) ≡ codes "C14 file contradicts itself at 2024-03-04 00:00\n"
unfolding civil year_after month_after
c14 = refl

-- ---- faults of the archive

s1 : fault_line (fault.Store store.DriverTaken) ≡ codes "S1 driver taken\n"
s1 = refl

s2 : fault_line (fault.Store store.KeyTaken) ≡ codes "S2 key taken\n"
s2 = refl

s3 : fault_line (fault.Store store.HolderTaken) ≡ codes "S3 holder taken\n"
s3 = refl

s4 : fault_line (fault.Store store.UnknownDriver) ≡ codes "S4 unknown driver\n"
s4 = refl

s5 : fault_line (fault.Store store.NotYourCard) ≡ codes "S5 not your card\n"
s5 = refl

s6 : fault_line (fault.Store (store.Contradiction 28492320)) ≡ codes "S6 contradiction at 2024-03-04 08:00\n"
unfolding civil year_after month_after
s6 = refl

s7 : fault_line (fault.Store store.UnknownEntry) ≡ codes "S7 unknown entry\n"
s7 = refl

s8 : fault_line (fault.Store store.AlreadyWithdrawn) ≡ codes "S8 already withdrawn\n"
s8 = refl

s9 : fault_line (fault.Store store.NotMonday) ≡ codes "S9 not a Monday\n"
s9 = refl

s10 : fault_line (fault.Store store.UnknownDownload) ≡ codes "S10 unknown download\n"
s10 = refl

-- a store fault that wraps a card's fault has the line of the card's fault
of_a_card : fault_line (fault.Store (store.Card card.TwoCards)) ≡ codes "C5 two cards\n"
of_a_card = refl

s12 : fault_line (fault.Store store.Store) ≡ codes "S12 store failed\n"
s12 = refl

s13 : fault_line (fault.Store store.OldSchema) ≡ codes "S13 old archive\n"
s13 = refl

s14 : fault_line (fault.Store store.Full) ≡ codes "S14 full\n"
s14 = refl

-- ---- faults of CSV

e1 : fault_line (fault.Sheet sheet.Head) ≡ codes "E1 wrong head\n"
e1 = refl

e2 : fault_line (fault.Sheet (sheet.Fields 2)) ≡ codes "E2 wrong fields in row 2\n"
unfolding digits
e2 = refl

e3 : fault_line (fault.Sheet (sheet.Time 2)) ≡ codes "E3 bad time in row 2\n"
unfolding digits
e3 = refl

e4 : fault_line (fault.Sheet (sheet.Order 2)) ≡ codes "E4 wrong order in row 2\n"
unfolding digits
e4 = refl

e5 : fault_line (fault.Sheet (sheet.LeftOut 2 left_out.Crew)) ≡ codes "E5 left out in row 2: crew\n"
unfolding digits
e5 = refl

e5_ferry : fault_line (fault.Sheet (sheet.LeftOut 2 left_out.Ferry)) ≡ codes "E5 left out in row 2: ferry\n"
unfolding digits
e5_ferry = refl

e5_out : fault_line (fault.Sheet (sheet.LeftOut 2 left_out.Out)) ≡ codes "E5 left out in row 2: out\n"
unfolding digits
e5_out = refl

e5_derogation : fault_line (fault.Sheet (sheet.LeftOut 2 left_out.Derogation)) ≡ codes "E5 left out in row 2: derogation\n"
unfolding digits
e5_derogation = refl

e6 : fault_line (fault.Sheet (sheet.Activity 2)) ≡ codes "E6 no such activity in row 2\n"
unfolding digits
e6 = refl

e7 : fault_line (fault.Sheet (sheet.TooLong 2)) ≡ codes "E7 too long in row 2\n"
unfolding digits
e7 = refl

e8 : fault_line (fault.Sheet sheet.Csv) ≡ codes "E8 csv refused\n"
e8 = refl

e9_driver : fault_line (fault.Sheet (sheet.Column column.Driver)) ≡ codes "E9 bad value for driver\n"
e9_driver = refl

e9_holder : fault_line (fault.Sheet (sheet.Column column.Holder)) ≡ codes "E9 bad value for holder\n"
e9_holder = refl

e9_key : fault_line (fault.Sheet (sheet.Column column.Key)) ≡ codes "E9 bad value for key\n"
e9_key = refl

e9_base : fault_line (fault.Sheet (sheet.Column column.Base)) ≡ codes "E9 bad value for base\n"
e9_base = refl

e9_name : fault_line (fault.Sheet (sheet.Column column.Name)) ≡ codes "E9 bad value for name\n"
e9_name = refl

e10_author : fault_line (fault.Sheet (sheet.Text 2 column.Author)) ≡ codes "E10 bad author in row 2\n"
unfolding digits
e10_author = refl

e10_note : fault_line (fault.Sheet (sheet.Text 2 column.Note)) ≡ codes "E10 bad note in row 2\n"
unfolding digits
e10_note = refl

-- ---- arguments, input and memory

n1 : fault_line fault.Number ≡ codes "N1 bad number\n"
n1 = refl

n2 : fault_line fault.Order ≡ codes "N2 wrong order\n"
n2 = refl

z4 : fault_line fault.Period ≡ codes "Z4 period\n"
z4 = refl

p1 : fault_line fault.Part ≡ codes "P1 bad part\n"
p1 = refl

x1 : fault_line fault.TooLarge ≡ codes "X1 too large\n"
x1 = refl

m1 : no_memory_line ≡ codes "M1 no memory\n"
m1 = refl

m1_of_a_card : fault_line (fault.Card card.Memory) ≡ codes "M1 no memory\n"
m1_of_a_card = refl

m1_of_the_archive : fault_line (fault.Store store.Memory) ≡ codes "M1 no memory\n"
m1_of_the_archive = refl

m1_of_csv : fault_line (fault.Sheet sheet.Memory) ≡ codes "M1 no memory\n"
m1_of_csv = refl

-- ---- commands that were done

registered : number_line (codes "registered ") 17 ≡ codes "registered 17\n"
unfolding digits
registered = refl

added : imported_text (Added 17 1) ≡ codes "added driver 17 number 1\n"
unfolding digits
added = refl

repeated : imported_text (Repeated 17) ≡ codes "repeated driver 17\n"
unfolding digits
repeated = refl

-- three entries from entry 1, and no entries
entered : entered_text 1 3 ≡ codes "entered 1 to 3\n"
unfolding digits
entered = refl

entered_none : entered_text 4 0 ≡ codes "entered none\n"
entered_none = refl

withdrawn : number_line (codes "withdrawn ") 1 ≡ codes "withdrawn 1\n"
unfolding digits
withdrawn = refl

base : base_line 19786 ≡ codes "base 2024-03-04\n"
unfolding civil year_after month_after
base = refl

-- a withdrawn entry of the office, and another author's entry that isn't withdrawn
abbrev rested : Entry
rested = record {
  number = 1;
  line = record { start = 28499040; past = 28501920; activity = Rest; author = codes "office"; note = [] };
  withdrawn = true;
}

abbrev day_off : Entry
day_off = record {
  number = 2;
  line = record { start = 28501920; past = 28503360; activity = Rest; author = codes "Eva Lund"; note = codes "day off" };
  withdrawn = false;
}

entry : entry_line rested ≡ codes "1 2024-03-09 00:00 2024-03-11 00:00 rest withdrawn \"office\" \"\"\n"
unfolding civil year_after month_after digits
entry = refl

kept_entry : entry_line day_off ≡ codes "2 2024-03-11 00:00 2024-03-12 00:00 rest kept \"Eva Lund\" \"day off\"\n"
unfolding civil year_after month_after digits
kept_entry = refl

-- a driver in the list of all drivers
abbrev listed : Summary
listed = record {
  number = 17;
  holder = 17 ∷ 1 ∷ 102 ∷ 5 ∷ 0 ∷ 1 ∷ 2 ∷ 3 ∷ 4 ∷ 5 ∷ 6 ∷ 7 ∷ 8 ∷ 9 ∷ 255 ∷ [];
  base = 19783;
  downloads = 3;
  entries = 2;
  name = codes "Anna Berg";
}

driver : summary_line listed ≡ codes "17 1101660500010203040506070809ff 2024-03-01 3 2 Anna Berg\n"
unfolding civil year_after month_after digits
driver = refl

-- ---- reports

-- B1 on 4 March at 13:00, and where its report ends
abbrev too_long_at_the_wheel : Breach
too_long_at_the_wheel = record { kind = B1; moment = 28492620; since = 28492350; amount = 240 }

abbrev its_horizon : Horizon
its_horizon = record { minute = 28492860; cause = Unknown }

breach : breach_line too_long_at_the_wheel ≡ codes "B1 Art 7 at 2024-03-04 13:00 since 2024-03-04 08:30 amount 240\n"
unfolding civil year_after month_after digits
breach = refl

horizon : horizon_line its_horizon ≡ codes "EXAMINED TO 2024-03-04 17:00 unknown\n"
unfolding civil year_after month_after
horizon = refl

horizon_of_a_crew : horizon_line (record { minute = 28492860; cause = Crew }) ≡ codes "EXAMINED TO 2024-03-04 17:00 crew\n"
unfolding civil year_after month_after
horizon_of_a_crew = refl

-- the kinds, and their Articles
b1 : kind_name B1 ≡ codes "B1 Art 7"
b1 = refl

b2 : kind_name B2 ≡ codes "B2 Art 8(2)"
b2 = refl

b3 : kind_name B3 ≡ codes "B3 Art 8(4)"
b3 = refl

b4 : kind_name B4 ≡ codes "B4 Art 6(1)"
b4 = refl

b5 : kind_name B5 ≡ codes "B5 Art 6(1)"
b5 = refl

b6 : kind_name B6 ≡ codes "B6 Art 6(2)"
b6 = refl

b7 : kind_name B7 ≡ codes "B7 Art 6(3)"
b7 = refl

b8 : kind_name B8 ≡ codes "B8 Art 8(6)"
b8 = refl

b9 : kind_name B9 ≡ codes "B9 Art 8(6)"
b9 = refl

b10 : kind_name B10 ≡ codes "B10 Art 8(6b)"
b10 = refl

-- a debt of the week from 4 March, a minute before its deadline and at it; and a debt that was paid
abbrev unpaid : Debt
unpaid = record { week = 2826; amount = 1260; deadline = 28532160; paid_by = None }

open_debt : debt_line 28532159 unpaid ≡ codes "WEEK 2024-03-04 owes 1260 by 2024-04-01 00:00 open\n"
unfolding civil year_after month_after digits
open_debt = refl

late_debt : debt_line 28532160 unpaid ≡ codes "WEEK 2024-03-04 owes 1260 by 2024-04-01 00:00 late\n"
unfolding civil year_after month_after digits
late_debt = refl

abbrev repaid : Debt
repaid = record unpaid { paid_by = Some 28514880 }

paid_debt : debt_line 28532160 repaid ≡ codes "WEEK 2024-03-04 owes 1260 by 2024-04-01 00:00 paid 2024-03-20 00:00\n"
unfolding civil year_after month_after digits
paid_debt = refl

-- ---- a month

-- what is held in the month: rest, work and driving on 4 March, and rest from the 31st at 16:00 on
abbrev held : List Span
held =
    record { start = 28491840; past = 28492320; mark = record { activity = Rest; crew = false } }
    ∷ record { start = 28492320; past = 28492350; mark = record { activity = Work; crew = false } }
    ∷ record { start = 28492350; past = 28492860; mark = record { activity = Drive; crew = false } }
    ∷ record { start = 28531680; past = 28532160; mark = record { activity = Rest; crew = false } }
    ∷ []

gap : gap_line (record { start = 28487520; past = 28491840 }) ≡ codes "2024-03-01 00:00 2024-03-04 00:00\n"
unfolding civil year_after month_after
gap = refl

next_gap : gap_line (record { start = 28492860; past = 28531680 }) ≡ codes "2024-03-04 17:00 2024-03-31 16:00\n"
unfolding civil year_after month_after
next_gap = refl

-- the head and the rows of the spans as CSV
csv : csv_text held ≡ codes "start,past,activity,manning\n" ++ codes "2024-03-04 00:00,2024-03-04 08:00,rest,single\n"
    ++ codes "2024-03-04 08:00,2024-03-04 08:30,work,single\n" ++ codes "2024-03-04 08:30,2024-03-04 17:00,drive,single\n"
    ++ codes "2024-03-31 16:00,2024-04-01 00:00,rest,single\n"
unfolding civil year_after month_after
csv = refl

-- the names of the days of the week
week : map weekday_name (0 ∷ 1 ∷ 2 ∷ 3 ∷ 4 ∷ 5 ∷ 6 ∷ [])
    ≡ codes "Mon" ∷ codes "Tue" ∷ codes "Wed" ∷ codes "Thu" ∷ codes "Fri" ∷ codes "Sat" ∷ codes "Sun" ∷ []
week = refl

-- the lines of five days, counted minute by minute from what is held
first : day_line held 19783 ≡ codes "2024-03-01 Fri   0:00   0:00   0:00   0:00   0:00  24:00\n"
unfolding civil year_after month_after digits
first = refl

third : day_line held 19785 ≡ codes "2024-03-03 Sun   0:00   0:00   0:00   0:00   0:00  24:00\n"
unfolding civil year_after month_after digits
third = refl

fourth : day_line held 19786 ≡ codes "2024-03-04 Mon   8:00   0:00   0:30   8:30   0:00   7:00\n"
unfolding civil year_after month_after digits
fourth = refl

fifth : day_line held 19787 ≡ codes "2024-03-05 Tue   0:00   0:00   0:00   0:00   0:00  24:00\n"
unfolding civil year_after month_after digits
fifth = refl

last : day_line held 19813 ≡ codes "2024-03-31 Sun   8:00   0:00   0:00   0:00   0:00  16:00\n"
unfolding civil year_after month_after digits
last = refl

-- the sheet around the lines of the days
whole : sheet_text 17 (codes "Anna Berg") held (too_long_at_the_wheel ∷ []) its_horizon 24290 19783 31
    ≡ codes "DRIVER 17 Anna Berg\nMONTH 2024-03\nDATE       DAY   REST  AVAIL   WORK  DRIVE   CREW   NONE\n"
    ++ day_lines held 19783 31 ++ codes "TOTAL           16:00   0:00   0:30   8:30   0:00 719:00\n"
    ++ codes "B1 Art 7 at 2024-03-04 13:00 since 2024-03-04 08:30 amount 240\n" ++ codes "EXAMINED TO 2024-03-04 17:00 unknown\n"
unfolding civil year_after month_after digits
whole = refl

-- ---- stretches

-- the stretches from 4 and from 11 March
abbrev stretches : List Judged
stretches =
    record { monday = 28491840; horizon = its_horizon; breaches = too_long_at_the_wheel ∷ []; debts = []; unseen = Some 28501920 }
    ∷ record { monday = 28501920; horizon = record { minute = 28502580; cause = Unknown }; breaches = []; debts = []; unseen = None }
    ∷ []

stretched : stretch_text stretches ≡ codes "FROM 2024-03-04\n"
    ++ codes "B1 Art 7 at 2024-03-04 13:00 since 2024-03-04 08:30 amount 240\n" ++ codes "EXAMINED TO 2024-03-04 17:00 unknown\n"
    ++ codes "NOT EXAMINED 2024-03-04 17:00 2024-03-11 00:00\n" ++ codes "FROM 2024-03-11\n" ++ codes "EXAMINED TO 2024-03-11 11:00 unknown\n"
unfolding civil year_after month_after digits
stretched = refl

owed_by_stretches : debt_text stretches ≡ codes "FROM 2024-03-04\n" ++ codes "EXAMINED TO 2024-03-04 17:00 unknown\n"
    ++ codes "NOT EXAMINED 2024-03-04 17:00 2024-03-11 00:00\n" ++ codes "FROM 2024-03-11\n" ++ codes "EXAMINED TO 2024-03-11 11:00 unknown\n"
unfolding civil year_after month_after digits
owed_by_stretches = refl

-- ---- a month of all drivers

overview : overview_head ++ overview_row 17 (codes "Anna Berg")
    (900 ∷ 0 ∷ 30 ∷ 750 ∷ 0 ∷ 42960 ∷ 1680 ∷ map (count_of (too_long_at_the_wheel ∷ [])) kinds)
    ≡ codes "driver,name,rest,available,work,drive,crew,none,examined,B1,B2,B3,B4,B5,B6,B7,B8,B9,B10\n"
    ++ codes "17,Anna Berg,900,0,30,750,0,42960,1680,1,0,0,0,0,0,0,0,0,0\n"
unfolding digits
overview = refl

-- the minutes at the ends of the two stretches, and those next to them
examined : map (is_examined stretches) (28491839 ∷ 28491840 ∷ 28492859 ∷ 28492860 ∷ 28501919 ∷ 28501920 ∷ 28502579 ∷ 28502580 ∷ [])
    ≡ false ∷ true ∷ true ∷ false ∷ false ∷ true ∷ true ∷ false ∷ []
examined = refl

incidents : incident_head ++ incident_row 17 (codes "Anna Berg") too_long_at_the_wheel
    ≡ codes "driver,name,kind,article,moment,since,amount\n" ++ codes "17,Anna Berg,B1,Art 7,2024-03-04 13:00,2024-03-04 08:30,240\n"
unfolding civil year_after month_after digits
incidents = refl

-- the kinds and their Articles, each in a column of its own
codes_of_kinds : map kind_code kinds ≡ codes "B1" ∷ codes "B2" ∷ codes "B3" ∷ codes "B4" ∷ codes "B5" ∷ codes "B6" ∷ codes "B7"
    ∷ codes "B8" ∷ codes "B9" ∷ codes "B10" ∷ []
codes_of_kinds = refl

articles : map article kinds ≡ codes "Art 7" ∷ codes "Art 8(2)" ∷ codes "Art 8(4)" ∷ codes "Art 6(1)" ∷ codes "Art 6(1)" ∷ codes "Art 6(2)"
    ∷ codes "Art 6(3)" ∷ codes "Art 8(6)" ∷ codes "Art 8(6)" ∷ codes "Art 8(6b)" ∷ []
articles = refl

-- ---- the form

form : form_row (record { start = 28492860; past = 28501920 }) ≡ codes "2024-03-04 17:00,2024-03-11 00:00,,,\n"
unfolding civil year_after month_after
form = refl
