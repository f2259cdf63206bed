-- Requests as plain data, whose parts lie in their messages: CORBA 3.0.3, section 15.4.2.
use Rattle.cdr_core.specs.Lists.{listed, context_of}
use Rattle.giop_messages.specs.Message.{Request}
use Rattle.giop_messages.specs.PartsView.{parts_target}
use Rattle.request_judge.specs.declared.request.Asked.{Asked}

-- the request that these parts are
abbrev pub request_of : Asked → Request
request_of asked = record {
  id = asked.id;
  flags = asked.flags;
  target = parts_target asked.target;
  operation = asked.operation.now;
  contexts = listed context_of asked.contexts;
  body = asked.body.now;
}
