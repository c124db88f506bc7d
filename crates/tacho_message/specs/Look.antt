-- Private to tacho_message: What the bytes so far are.
use Rattle.std.specs.Prelude.{ℕ, List}
use Rattle.httparse.specs.Grammar.{HasNoRequest, NeverHasRequest, MayBecomeRequest}
use Rattle.httparse.specs.Spans.{RequestExceeds, RequestOverflows}
use Rattle.httparse.specs.declared.spans.HeaderSpan.{HeaderSpan}
use Rattle.tacho_message.specs.Head.{IsHeadAt}
use Rattle.tacho_message.specs.declared.head.Look.{Look}
use Rattle.tacho_message.specs.declared.head.Look.TheVariants.{Complete, More, Never, TooMany}

abbrev pub IsLook : List ℕ → ℕ → List HeaderSpan → Look → Type 0
IsLook bytes room fields (Complete spans) = IsHeadAt bytes room fields spans
IsLook bytes room fields More = HasNoRequest bytes × MayBecomeRequest bytes
IsLook bytes room fields Never = RequestOverflows room bytes × NeverHasRequest bytes
IsLook bytes room fields TooMany = RequestOverflows room bytes × RequestExceeds room bytes
