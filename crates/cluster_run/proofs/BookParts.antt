-- A book crosses threads where its parts do, and so does a ledger.
use denote.Struct.Struct.{Struct}
use denote.Struct.Declared.{shape as struct_shape}
use denote.Param.Send.{IsSend, SendAt, FieldsAt, struct_send_at, recorded_send_of, view_send}
use Rattle.history_book.specs.contracts.book.Book as book
use Rattle.history_book.specs.contracts.book.Book.TheInside as inside
use Rattle.merge_tasks.specs.contracts.ledger.Ledger as ledger
use Rattle.merge_tasks.specs.contracts.ledger.Ledger.TheInside as parts

pub book_send : ((d : inside.the_type.D) → FieldsAt SendAt (struct_shape inside.the_type).fields (inside.the_type.to d)) → IsSend book.the_row
book_send fields =
    view_send inside.the_row _ _ _ _
    (recorded_send_of (Struct (struct_shape inside.the_type)) inside.the_type.D inside.the_type.to inside.the_type.to_one (λ d. struct_send_at (struct_shape inside.the_type) (inside.the_type.to d) (fields d)))

pub ledger_send : ((d : parts.the_type.D) → FieldsAt SendAt (struct_shape parts.the_type).fields (parts.the_type.to d)) → IsSend ledger.the_row
ledger_send fields =
    view_send parts.the_row _ _ _ _
    (recorded_send_of (Struct (struct_shape parts.the_type)) parts.the_type.D parts.the_type.to parts.the_type.to_one (λ d. struct_send_at (struct_shape parts.the_type) (parts.the_type.to d) (fields d)))
