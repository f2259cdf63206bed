-- Servants may go to other threads and be shared by them: nothing in them is bound to one.
use denote.Param.Send.{IsSend, IsSync, sendable, enum_send, enum_sync}
use denote.Enum.Declared.{shape}
use Rattle.std.proofs.Crossing as std
use Rattle.cdr_values.proofs.kind.IdlType.TheLaws.TheKnot as kind
use Rattle.cdr_values.proofs.value.IdlValue.TheLaws.TheKnot as value
use Rattle.idl_types.specs.contracts.interface.Interface as interface
use Rattle.idl_types.specs.contracts.exception.Exception as exception
use Rattle.idl_types.specs.contracts.constant.Constant as constant
use Rattle.idl_types.specs.contracts.named_type.NamedType as named
use Rattle.idl_types.specs.contracts.declaration.Declaration as declaration
use Rattle.idl_types.specs.contracts.held.Held as held
use Rattle.idl_types.specs.contracts.repository.Repository as repository
use Rattle.script_values.proofs.tree.Form.TheLaws.TheKnot as form
use Rattle.script_values.proofs.tree.Stmt.TheLaws.TheKnot as stmt
use Rattle.script_checks.specs.contracts.checked.CheckedServant as servant
use Rattle.dynamic_servants.specs.contracts.servants.Servants as servants

constant_sent : IsSend constant.the_field.row
constant_sent = search (std.crosses, kind.crosses, value.crosses, sendable) depth 60 fits 20000

named_sent : IsSend named.the_field.row
named_sent = search (std.crosses, kind.crosses, sendable) depth 60 fits 20000

exception_sent : IsSend exception.the_field.row
exception_sent = search (std.crosses, kind.crosses, sendable) depth 60 fits 20000

interface_sent : IsSend interface.the_field.row
interface_sent = search (std.crosses, kind.crosses, sendable) depth 60 fits 20000

declaration_sent : IsSend declaration.the_field.row
declaration_sent = enum_send (shape declaration.the_type) ((constant_sent, tt), ((named_sent, tt), ((exception_sent, tt), ((interface_sent, tt), tt))))

held_sent : IsSend held.the_field.row
held_sent = search (declaration_sent, std.crosses, sendable) depth 60 fits 20000

repository_sent : IsSend repository.the_field.row
repository_sent = search (held_sent, std.crosses, sendable) depth 60 fits 20000

servant_sent : IsSend servant.the_field.row
servant_sent = search (std.crosses, form.crosses, stmt.crosses, value.crosses, sendable) depth 60 fits 20000

pub servants_sent : IsSend servants.the_field.row
servants_sent = search (repository_sent, servant_sent, std.crosses, sendable) depth 60 fits 20000

-- ---- and shared

constant_shared : IsSync constant.the_field.row
constant_shared = search (std.crosses, kind.crosses, value.crosses, sendable) depth 60 fits 20000

named_shared : IsSync named.the_field.row
named_shared = search (std.crosses, kind.crosses, sendable) depth 60 fits 20000

exception_shared : IsSync exception.the_field.row
exception_shared = search (std.crosses, kind.crosses, sendable) depth 60 fits 20000

interface_shared : IsSync interface.the_field.row
interface_shared = search (std.crosses, kind.crosses, sendable) depth 60 fits 20000

declaration_shared : IsSync declaration.the_field.row
declaration_shared = enum_sync (shape declaration.the_type) ((constant_shared, tt), ((named_shared, tt), ((exception_shared, tt), ((interface_shared, tt), tt))))

held_shared : IsSync held.the_field.row
held_shared = search (declaration_shared, std.crosses, sendable) depth 60 fits 20000

repository_shared : IsSync repository.the_field.row
repository_shared = search (held_shared, std.crosses, sendable) depth 60 fits 20000

servant_shared : IsSync servant.the_field.row
servant_shared = search (std.crosses, form.crosses, stmt.crosses, value.crosses, sendable) depth 60 fits 20000

pub servants_shared : IsSync servants.the_field.row
servants_shared = search (repository_shared, servant_shared, std.crosses, sendable) depth 60 fits 20000
