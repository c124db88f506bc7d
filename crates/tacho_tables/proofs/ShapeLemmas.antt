-- A term is read as deep as there are nodes. One that says that a column is 0 or 1 is three nodes deep.
use Rattle.std.proofs.Common.{◌≡◌, ◌≢◌, ◌↔◌, ◌<◌, ◌≤◌, ℕ, suc, Bool, false, List, [], ◌∷◌, length, slice_index_or, IsTrue, arith, true≢false, sym, ap₂, ◌∙◌}
use Rattle.sqlite_value.specs.declared.value.Value.TheVariants.{Null}
use Rattle.sqlite_sql.specs.Term.{Term, lit, op2}
use Rattle.sqlite_sql.specs.declared.ops.BinaryOp.{BinaryOp}
use Rattle.sqlite_schema.specs.declared.code.Op.{Op}
use Rattle.sqlite_schema.specs.declared.code.Op.TheVariants.{Literal, Column, Unary, Binary, Case}
use Rattle.sqlite_schema.specs.Code.{op_term, term_to, term_in}
use Rattle.tacho_tables.specs.Schema.{is_0_or_1, withdrawn_is}

-- one node is no comparison
one_is_few : (number : ℕ) (node : Op) → op_term (λ _. lit Null) node ≢ withdrawn_is number
one_is_few number (Literal v) same = cc
one_is_few number (Column slot at) same = cc
one_is_few number (Unary o a) same = cc
one_is_few number (Binary o a b) same = cc
one_is_few number (Case t a b) same = cc

-- one or two are no choice
two_are_few : (others : ℕ → Op) (node : Op) → op_term (λ at. op_term (λ _. lit Null) (others at)) node ≢ is_0_or_1
two_are_few others (Literal v) same = cc
two_are_few others (Column slot at) same = cc
two_are_few others (Unary o a) same = cc
two_are_few others (Binary o a b) same = one_is_few 0 (others a) (cc)
two_are_few others (Case t a b) same = cc

one_is_no_choice : (node : Op) → op_term (λ _. lit Null) node ≢ is_0_or_1
one_is_no_choice (Literal v) same = cc
one_is_no_choice (Column slot at) same = cc
one_is_no_choice (Unary o a) same = cc
one_is_no_choice (Binary o a b) same = cc
one_is_no_choice (Case t a b) same = cc

pub few : (nodes : List Op) (root : ℕ) → length nodes ≤ 2 → term_in nodes root ≢ is_0_or_1
few [] root short same = cc
few (a ∷ []) root short same = one_is_no_choice (slice_index_or (a ∷ []) root (Literal Null)) same
few (a ∷ b ∷ []) root short same =
    two_are_few (λ at. slice_index_or (a ∷ b ∷ []) at (Literal Null)) (slice_index_or (a ∷ b ∷ []) root (Literal Null)) same
few (a ∷ b ∷ c ∷ rest) root short same = absurd (omega arith)

pub deep : (nodes : List Op) (root : ℕ) (r : Bool) → 2 < length nodes
    → ((depth : ℕ) → IsTrue r ↔ (term_to nodes (suc (suc (suc depth))) root ≡ is_0_or_1)) → IsTrue r ↔ (term_in nodes root ≡ is_0_or_1)
deep [] root r long it = absurd (omega arith)
deep (a ∷ []) root r long it = absurd (omega arith)
deep (a ∷ b ∷ []) root r long it = absurd (omega arith)
deep (a ∷ b ∷ c ∷ rest) root r long it = it (length rest)

-- ---- an operation is the one that is asked for if both operands are

first_of : (op : BinaryOp) (a b c d : Term) → op2 op a b ≡ op2 op c d → a ≡ c
first_of op a b c d same = cc

second_of : (op : BinaryOp) (a b c d : Term) → op2 op a b ≡ op2 op c d → b ≡ d
second_of op a b c d same = cc

pub both : (op : BinaryOp) (x a b c d : Term) (r : Bool) → x ≡ op2 op a b → a ≡ c → IsTrue r ↔ (b ≡ d) → IsTrue r ↔ (x ≡ op2 op c d)
both op x a b c d r is first it = (λ yes. is ∙ ap₂ (op2 op) first (it.0 yes), λ same. it.1 (second_of op a b c d (sym is ∙ same)))

pub first_fails : (op : BinaryOp) (x a b c d : Term) (r : Bool) → x ≡ op2 op a b → r ≡ false → IsTrue r ↔ (a ≡ c)
    → IsTrue r ↔ (x ≡ op2 op c d)
first_fails op x a b c d r is fails it =
    (λ yes. absurd (true≢false (sym yes ∙ fails)), λ same. it.1 (first_of op a b c d (sym is ∙ same)))

pub neither : {x wanted : Term} → x ≢ wanted → IsTrue false ↔ (x ≡ wanted)
neither apart = (λ yes. absurd (true≢false (sym yes)), λ same. absurd (apart same))
