-- In the order of reading: nodes, Written, sound, kinds, TypedLaws, Lowered, Within, Worked, WorkedOperators,
-- WorkedOrder, WorkedStatements, WorkedSwitch, WorkedJumps, WorkedSlots, WorkedCalls, WorkedRows, WorkedFormats,
-- WorkedMade, WorkedPlaces, WorkedFileCalls, WorkedCode, WorkedCodeOperators, WorkedCodeStatements, WorkedCodeSlots,
-- WorkedCodeCalls, WorkedCodeRows, WorkedCodeFormats, WorkedCodeMade. The file named after a folder says what is in it.
pub mod nodes
pub mod Written
pub mod sound
pub mod kinds
pub mod TypedLaws
pub mod Lowered
pub mod Within
pub mod Worked
pub mod WorkedOperators
pub mod WorkedOrder
pub mod WorkedStatements
pub mod WorkedSwitch
pub mod WorkedJumps
pub mod WorkedSlots
pub mod WorkedCalls
pub mod WorkedRows
pub mod WorkedFormats
pub mod WorkedMade
pub mod WorkedPlaces
pub mod WorkedFileCalls
pub mod WorkedCode
pub mod WorkedCodeOperators
pub mod WorkedCodeStatements
pub mod WorkedCodeSlots
pub mod WorkedCodeCalls
pub mod WorkedCodeRows
pub mod WorkedCodeFormats
pub mod WorkedCodeMade
