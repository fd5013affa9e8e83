-- Events and entries cross threads where their parts do.
use denote.Enum.Enum.{Enum}
use denote.Enum.Declared.{shape, variants}
use denote.Struct.Struct.{Struct}
use denote.Struct.Declared.{shape as struct_shape}
use denote.Param.Send.{IsSend, SendAt, LiveAt, FieldsAt, enum_send_at, struct_send_at, recorded_send_of, recorded_send_at, sendable}
use denote.Param.SendFields.{variants_send, as_row_send, as_row_sync, declared_send, declared_sync, variants_sync}
use Rattle.history_rules.specs.contracts.entry.Event as event
use Rattle.history_rules.specs.contracts.entry.Entry as entry
use Rattle.history_rules.specs.contracts.cause.Cause as cause
use Rattle.history_rules.specs.contracts.cause.FaultKind as kind
use Rattle.history_rules.specs.contracts.cause.FaultPlan as plan
use Rattle.documents.specs.contracts.operation.Op as op
use Rattle.documents.specs.contracts.answer.Answer as answer
use Rattle.documents.specs.contracts.query.Query as query
use Rattle.file_names.specs.contracts.names.FileName as name
use Rattle.nrt_base.specs.contracts.list.List as list
use Rattle.nrt_base.specs.contracts.numbers.At as place
use Rattle.history_rules.specs.declared.entry.Entry.{Entry}
use Rattle.history_rules.specs.declared.entry.Event.{Event}
use Rattle.history_rules.specs.declared.entry.Event.TheVariants.{Accepted, Answered, Files, Refused, Planned, Fault}

cause_send : IsSend cause.the_row
cause_send = search (sendable, as_row_send, as_row_sync, declared_send, declared_sync, variants_send, variants_sync) depth 40 fits 8000

kind_send : IsSend kind.the_row
kind_send = search (sendable, as_row_send, as_row_sync, declared_send, declared_sync, variants_send, variants_sync) depth 40 fits 8000

plan_send : IsSend plan.the_row
plan_send = search (sendable, as_row_send, as_row_sync, declared_send, declared_sync, variants_send, variants_sync) depth 40 fits 8000

place_send : IsSend place.the_row
place_send = search (sendable, as_row_send, declared_send) depth 40 fits 8000

-- an event, where its heavy parts cross
module _ (ops : IsSend op.the_row) (queries : IsSend query.the_row) (answers : IsSend answer.the_row) (lists : IsSend (list.the_row name.the_row)) where
  live : (d : Event) → LiveAt SendAt (variants event.the_type) (event.the_type.to d)
  live (Accepted seq o) = (search sendable, (recorded_send_at (Enum (shape op.the_type)) _ op.the_type.to op.the_type.to_one ops o, tt))
  live (Answered n t v q a) = (
    search sendable,
    (
      search sendable,
      (
        search sendable,
        (
          recorded_send_at (Enum (shape query.the_type)) _ query.the_type.to query.the_type.to_one queries q,
          (recorded_send_at (Struct (struct_shape answer.the_type)) _ answer.the_type.to answer.the_type.to_one answers a, tt),
        ),
      ),
    ),
  )
  live (Planned n p) = (search sendable, (recorded_send_at (Enum (shape plan.the_type)) _ plan.the_type.to plan.the_type.to_one plan_send p, tt))
  live (Fault n k) = (search sendable, (recorded_send_at (Enum (shape kind.the_type)) _ kind.the_type.to kind.the_type.to_one kind_send k, tt))
  live (Files n names) = (search sendable, ((lists.owned names, λ k. lists.leaving k names), tt))
  live (Refused c) = (recorded_send_at (Enum (shape cause.the_type)) _ cause.the_type.to cause.the_type.to_one cause_send c, tt)
  live d = search sendable

  pub event_send : IsSend event.the_row
  event_send = recorded_send_of (Enum (shape event.the_type)) event.the_type.D event.the_type.to event.the_type.to_one (λ d. enum_send_at (shape event.the_type) (event.the_type.to d) (live d))

-- an entry, where events cross
module _ (events : IsSend event.the_row) where
  fields : (d : Entry) → FieldsAt SendAt (struct_shape entry.the_type).fields (entry.the_type.to d)
  fields d = (recorded_send_at (Struct (struct_shape place.the_type)) _ place.the_type.to place.the_type.to_one place_send d.at, (recorded_send_at (Enum (shape event.the_type)) _ event.the_type.to event.the_type.to_one events d.event, tt))

  pub entry_send : IsSend entry.the_row
  entry_send = recorded_send_of (Struct (struct_shape entry.the_type)) entry.the_type.D entry.the_type.to entry.the_type.to_one (λ d. struct_send_at (struct_shape entry.the_type) (entry.the_type.to d) (fields d))
