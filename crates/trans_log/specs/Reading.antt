-- The record that a body spells, as a function of its bytes.
use Rattle.std.specs.Prelude.{ℕ, List, [], ◌∷◌, Bool, ◌&&◌, ◌==◌, if◌then◌else◌, Option, Some, None}
use Rattle.nrt_base.specs.Bytes.{is_key, is_text, is_word}
use Rattle.body_forms.specs.Format.{Read, ◌>>=◌, then_at}
use Rattle.body_forms.specs.Numbers.{u32_at, u64_at, string_at}
use Rattle.documents.specs.declared.operation.Op.{Op}
use Rattle.documents.specs.declared.operation.Op.TheVariants.{Put, Delete, Drop}
use Rattle.trans_log.specs.declared.parts.OpParts.{OpParts}
use Rattle.trans_log.specs.declared.parts.OpParts.TheVariants.{Put as PutParts, Delete as DeleteParts, Drop as DropParts}
use Rattle.trans_log.specs.declared.parts.Fields.{Fields}
use Rattle.trans_log.specs.declared.record.LogOp.{LogOp}

-- an operation made of what is read and passes a test
abbrev pub op_made_at : {X : Type 0} → (List ℕ → Read X) → (X → Bool) → (X → Op) → List ℕ → Read Op
op_made_at read test make bytes = read bytes >>= λ x. if test x.0 then Some (make x.0, x.1) else None

-- a key and a text
abbrev pub put_of : List ℕ × List ℕ → Op
put_of p = Put (record { key = p.0; text = p.1 })

-- the test of a key and a text
abbrev pub is_put_pair : List ℕ × List ℕ → Bool
is_put_pair p = is_key p.0 && is_text p.1

-- the operation of this kind
abbrev pub op_of_kind : ℕ → List ℕ → Read Op
op_of_kind kind bytes =
    if kind == 1 then op_made_at (then_at string_at (λ _. string_at)) is_put_pair put_of bytes
    else (if kind == 2 then op_made_at string_at is_key Delete bytes
    else (if kind == 3 then op_made_at string_at is_word Drop bytes else None))

-- the operation at the front: its kind, and what the kind has
unfoldable pub op_at : List ℕ → Read Op
op_at [] = None
op_at (kind ∷ bytes) = op_of_kind kind bytes

-- the generation, the number and the operation
abbrev pub Three : Type 0
Three = ℕ × (ℕ × Op)

-- these at the front
unfoldable pub three_at : List ℕ → Read Three
three_at bytes = then_at u64_at (λ _. then_at u32_at (λ _. op_at)) bytes

-- what was read, where nothing is left
abbrev pub whole_read : {X : Type 0} → Read X → Option X
whole_read None = None
whole_read (Some (x, [])) = Some x
whole_read (Some (x, b ∷ rest)) = None

-- the record of these
abbrev pub record_of_three : Three → LogOp
record_of_three t = record { generation = record { 0 = t.0 }; seq = t.1.0; op = t.1.1 }

-- the operation of which these are the parts
abbrev pub op_of : OpParts → Op
op_of (PutParts key text) = put_of (key.now, text.now)
op_of (DeleteParts key) = Delete key.now
op_of (DropParts word) = Drop word.now

-- the record of which these are the fields
abbrev pub record_of_fields : Fields → LogOp
record_of_fields f = record { generation = record { 0 = f.generation }; seq = f.seq; op = op_of f.op }
