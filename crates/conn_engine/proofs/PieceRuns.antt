-- The calls of a piece are those of the reading side, and what became of them.
use Rattle.std.proofs.Common.{◌≡◌, inr, ℕ, Bool, true, false, List, [], ◌∷◌, ◌++◌, Option, Some, None, Result, Ok, Err, refl, sym, ◌∙◌, subst}
use Rattle.orb_base.specs.Outside.{SinkState}
use Rattle.orb_base.specs.Pool.{Pool, IsWellFormed}
use Rattle.orb_base.specs.declared.conn_id.ConnId.{ConnId}
use Rattle.giop_frames.specs.Stream.{stream}
use Rattle.orb_base.specs.declared.limits.TheConstants.{MAX_MESSAGE}
use Rattle.lane_machine.specs.declared.call.LaneCall.{LaneCall}
use Rattle.lane_machine.specs.Histories.{History}
use Rattle.lane_machine.specs.State.{State}
use Rattle.adapter_policies.specs.SetupData.{SetupData}
use Rattle.pipe_laws.specs.Legality.{AreHeardCalls}
use Rattle.pipe_laws.specs.Serials.{RisesFrom, CountsFrom}
use Rattle.pipe_laws.specs.Setup.{pipe_conn}
use Rattle.pipe_laws.proofs.Rising.{counting_rises}
use Rattle.lane_driver.specs.Driving.{Servant}
use Rattle.lane_driver.specs.Feeding.{Fed, Feeds}
use Rattle.lane_driver.specs.declared.course.Course.{Course}
use Rattle.lane_driver.specs.declared.course.Course.TheVariants.{Whole, Stopped}
use Rattle.heard_calls.specs.declared.ending.Ending.{Ending}
use Rattle.conn_engine.specs.HeardSoFar.{HeardSoFar}
use Rattle.conn_engine.specs.Hearers.{Hearer, FeedsOn}
use Rattle.conn_engine.specs.Pieces.{out_of, RunsPiece}
use Rattle.conn_engine.specs.declared.reading.Reading.{Reading}
use Rattle.conn_engine.specs.declared.reading.Reading.TheVariants as reading
use Rattle.conn_engine.proofs.HeardCalls.{heard_ones}

-- the calls of bytes are those of the reading side
pub calls_heard : (setup : SetupData) (conn : ConnId) (bytes : List ℕ) (calls : List LaneCall) (ending : Option Ending) → IsWellFormed setup.pool → HeardSoFar setup conn bytes calls ending
    → AreHeardCalls setup.pool conn calls
calls_heard setup conn bytes calls ending well h =
    subst (λ (cs : List LaneCall). AreHeardCalls setup.pool conn cs) (sym h.calls_are)
    (heard_ones setup conn (stream MAX_MESSAGE bytes).messages None 0 h.told well h.hears).0

-- and their serials rise
pub calls_rise : (setup : SetupData) (conn : ConnId) (bytes : List ℕ) (calls : List LaneCall) (ending : Option Ending) → IsWellFormed setup.pool → HeardSoFar setup conn bytes calls ending
    → RisesFrom 0 calls
calls_rise setup conn bytes calls ending well h =
    counting_rises 0 calls
    (subst (λ (cs : List LaneCall). CountsFrom 0 cs) (sym h.calls_are)
    (heard_ones setup conn (stream MAX_MESSAGE bytes).messages None 0 h.told well h.hears).1)

heard_behind : (pool : Pool) (conn : ConnId) (a b : List LaneCall) → AreHeardCalls pool conn (a ++ b) → AreHeardCalls pool conn b
heard_behind pool conn [] b are = are
heard_behind pool conn (call ∷ a) b are = heard_behind pool conn a b are.1

-- the calls of a piece are those of the pipe's connection
pub piece_heard : (setup : SetupData) (pool : Pool) (h h' : Hearer) (piece : List ℕ) (calls given : List LaneCall) (ending : Option Ending) → IsWellFormed setup.pool
    → h.setup ≡ setup → h.conn ≡ pipe_conn → pool ≡ setup.pool → FeedsOn h h' piece calls ending → given ≡ calls → AreHeardCalls pool pipe_conn given
piece_heard setup pool h h' piece calls given ending well setup_is conn_is pool_is feeds is =
    let its_setup : h'.setup ≡ setup = feeds.same_setup ∙ setup_is in
    let its_conn : h'.conn ≡ pipe_conn = feeds.same_conn ∙ conn_is in
    let heard : HeardSoFar setup pipe_conn h'.framer.fed h'.calls ending =
    subst (λ (c : ConnId). HeardSoFar setup c h'.framer.fed h'.calls ending) its_conn
    (subst (λ (x : SetupData). HeardSoFar x h'.conn h'.framer.fed h'.calls ending) its_setup feeds.heard) in
    let all : AreHeardCalls setup.pool pipe_conn (h.calls ++ calls) =
    subst (λ (cs : List LaneCall). AreHeardCalls setup.pool pipe_conn cs) feeds.calls_are (calls_heard setup pipe_conn h'.framer.fed h'.calls ending well heard) in
    subst (λ (p : Pool). AreHeardCalls p pipe_conn given) (sym pool_is)
    (subst (λ (cs : List LaneCall). AreHeardCalls setup.pool pipe_conn cs) (sym is) (heard_behind setup.pool pipe_conn h.calls calls all))

-- ---- what became of them

came_out : (closing : Bool) (ending : Option Ending) (batch : ℕ) (outcome : Servant) (h h' : Hearer) (piece : List ℕ) (calls : List LaneCall) (s s' : State) (room room' : ℕ)
    (log log' : Option History) (out out' : SinkState) → s'.closing ≡ closing → FeedsOn h h' piece calls ending → Fed batch outcome s s' room room' calls [] log log' out out'
    → RunsPiece {E = ⊥} (Ok (out_of closing ending)) batch outcome h h' piece s s' room room' log log' out out'
came_out true ending batch outcome h h' piece calls s s' room room' log log' out out' is feeds fed =
    ((ending, record { calls = calls; feeds = feeds; fed = fed }), is)
came_out false (Some e) batch outcome h h' piece calls s s' room room' log log' out out' is feeds fed =
    (record { calls = calls; feeds = feeds; fed = fed }, is)
came_out false None batch outcome h h' piece calls s s' room room' log log' out out' is feeds fed =
    (record { calls = calls; feeds = feeds; fed = fed }, is)

-- the calls as they were passed are those of the piece
as_given : {E : Type 0} (result : Result Course E) (batch : ℕ) (outcome : Servant) (calls given : List LaneCall) (s s' : State) (room room' : ℕ)
    (log log' : Option History) (out out' : SinkState) → given ≡ calls → Feeds result batch outcome s s' room room' given log log' out out'
    → Feeds result batch outcome s s' room room' calls log log' out out'
as_given result batch outcome calls given s s' room room' log log' out out' is feeds =
    subst (λ (cs : List LaneCall). Feeds result batch outcome s s' room room' cs log log' out out') is feeds

pub piece_whole : (course : Course) (batch : ℕ) (outcome : Servant) (h h' : Hearer) (piece : List ℕ) (calls given : List LaneCall) (ending : Option Ending) (next : Option Reading) (s s' : State) (room room' : ℕ)
    (log log' : Option History) (out out' : SinkState) → course ≡ Whole → given ≡ calls → FeedsOn h h' piece calls ending
    → Feeds {E = ⊥} (Ok course) batch outcome s s' room room' given log log' out out' → next ≡ out_of s'.closing ending
    → RunsPiece {E = ⊥} (Ok next) batch outcome h h' piece s s' room room' log log' out out'
piece_whole course batch outcome h h' piece calls given ending next s s' room room' log log' out out' whole is feeds fed out_is =
    let all : Fed batch outcome s s' room room' calls [] log log' out out' =
    as_given {E = ⊥} (Ok Whole) batch outcome calls given s s' room room' log log' out out' is
    (subst (λ (x : Course). Feeds {E = ⊥} (Ok x) batch outcome s s' room room' given log log' out out') whole fed) in
    subst (λ (o : Option Reading). RunsPiece {E = ⊥} (Ok o) batch outcome h h' piece s s' room room' log log' out out') (sym out_is)
    (came_out s'.closing ending batch outcome h h' piece calls s s' room room' log log' out out' refl feeds all)

pub piece_stopped : (course : Course) (batch : ℕ) (outcome : Servant) (h h' : Hearer) (piece : List ℕ) (calls given : List LaneCall) (ending : Option Ending) (s s' : State) (room room' : ℕ)
    (log log' : Option History) (out out' : SinkState) → course ≡ Stopped → given ≡ calls → FeedsOn h h' piece calls ending
    → Feeds {E = ⊥} (Ok course) batch outcome s s' room room' given log log' out out'
    → RunsPiece {E = ⊥} (Ok (Some reading.Stopped)) batch outcome h h' piece s s' room room' log log' out out'
piece_stopped course batch outcome h h' piece calls given ending s s' room room' log log' out out' stopped is feeds fed =
    let all = as_given {E = ⊥} (Ok Stopped) batch outcome calls given s s' room room' log log' out out' is
    (subst (λ (x : Course). Feeds {E = ⊥} (Ok x) batch outcome s s' room room' given log log' out out') stopped fed) in
    record { calls = calls; ending = ending; feeds = feeds; stopped = all.0; rose = all.1 }

pub piece_wants : {E F : Type 0} (e : E) (f : F) (batch : ℕ) (outcome : Servant) (h h' : Hearer) (piece : List ℕ) (calls given : List LaneCall) (ending : Option Ending) (s s' : State) (room room' : ℕ)
    (log log' : Option History) (out out' : SinkState) → given ≡ calls → FeedsOn h h' piece calls ending
    → Feeds {E = E} (Err e) batch outcome s s' room room' given log log' out out'
    → RunsPiece {E = F} (Err f) batch outcome h h' piece s s' room room' log log' out out'
piece_wants {E = E} e f batch outcome h h' piece calls given ending s s' room room' log log' out out' is feeds fed =
    let all = as_given {E = E} (Err e) batch outcome calls given s s' room room' log log' out out' is fed in
    inr (record { calls = calls; ending = ending; feeds = feeds; began = all })
