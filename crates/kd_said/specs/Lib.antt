-- What contracts cite of what a command says, beside kd_commands.

-- what items say, as the code finds it
pub mod Said
